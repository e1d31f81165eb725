-- What statements do to the values of a plan's variables, for one hart.
use Rattle.std.specs.Prelude.{ℕ, ◌+◌, ◌-◌, ◌%◌, ◌^◌, ◌==◌, ◌&&◌, not, nat_lt, nat_le, if◌then◌else◌, Bool, true, false, Option, Some, None, List, [], ◌∷◌, slice_get, slice_index, slice_set}
use Rattle.pn_types.specs.declared.compare.Cmp.{Cmp}
use Rattle.pn_types.specs.declared.compare.Cmp.TheVariants.{Eq, Ne, Lt, Le, Gt, Ge}
use Rattle.pn_types.specs.declared.plan.Act.{Act}
use Rattle.pn_types.specs.declared.plan.Act.TheVariants.{Up, Down, Put, Start, Stop}
use Rattle.pn_types.specs.declared.plan.Cond.{Cond}
use Rattle.pn_types.specs.declared.plan.Left.{Left}
use Rattle.pn_types.specs.declared.plan.Left.TheVariants.{Counter, Argument}
use Rattle.pn_types.specs.declared.plan.Stmt.{Stmt}

abbrev pub compares : Cmp → ℕ → ℕ → Bool
compares Eq a b = a == b
compares Ne a b = not (a == b)
compares Lt a b = nat_lt a b
compares Le a b = nat_le a b
compares Gt a b = nat_lt b a
compares Ge a b = nat_le b a

-- a number that isn't there meets no condition
abbrev pub meets : Cmp → ℕ → Option ℕ → Bool
meets cmp right None = false
meets cmp right (Some left) = compares cmp left right

-- the left side: a variable's value, or an argument where there is one
abbrev pub left_value : Left → List ℕ → List ℕ → Option ℕ
left_value (Counter v) arguments values = Some (slice_index values v)
left_value (Argument a) arguments values = slice_get arguments a

abbrev pub all_hold : List Cond → List ℕ → List ℕ → Bool
all_hold [] arguments values = true
all_hold (c ∷ cs) arguments values = meets c.cmp c.right (left_value c.left arguments values) && all_hold cs arguments values

-- a counter goes up modulo 2^64, and down to 0 at least; a timer's value is its number of starts in force
abbrev pub values_after_act : Act → List ℕ → List ℕ
values_after_act (Up v) values = slice_set values v ((slice_index values v + 1) % 2 ^ 64)
values_after_act (Down v) values = slice_set values v (slice_index values v - 1)
values_after_act (Put v n) values = slice_set values v n
values_after_act (Start v) values = slice_set values v (slice_index values v + 1)
values_after_act (Stop v) values = slice_set values v (slice_index values v - 1)

-- a statement acts where all its conditions hold
abbrev pub values_behind : Stmt → List ℕ → List ℕ → List ℕ
values_behind s arguments values = if all_hold s.conds arguments values then values_after_act s.act values else values

-- The values after statements, one after another.
abbrev pub values_after : List Stmt → List ℕ → List ℕ → List ℕ
values_after [] arguments values = values
values_after (s ∷ ss) arguments values = values_after ss arguments (values_behind s arguments values)
