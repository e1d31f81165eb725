-- The values of a plan's variables, as changes since the beginning.
use Rattle.std.specs.Prelude.{ℕ, ◌+◌, ◌^◌, ◌<◌, ◌==◌, if◌then◌else◌, List, [], ◌∷◌, length, slice_set}
use Rattle.std.specs.List.{AllByRecursion}
use Rattle.pn_types.specs.declared.plan.Var.{Var}
use Rattle.tramp_spec.specs.Slots.{initials}
use Rattle.frame_walk.specs.declared.changes.Change.{Change}

-- the values after changes
abbrev pub values_changed : List ℕ → List Change → List ℕ
values_changed values [] = values
values_changed values (c ∷ cs) = values_changed (slice_set values c.variable c.value) cs

-- the value that a variable has after changes
abbrev pub last_of : ℕ → ℕ → List Change → ℕ
last_of v x [] = x
last_of v x (c ∷ cs) = last_of v (if c.variable == v then c.value else x) cs

-- The values of variables while statements act, and how many acts there were.
pub record Acting : Type 0 where
  pub values : List ℕ
  pub acts : ℕ

abbrev pub acting_of : List Var → List Change → Acting
acting_of vars cs = record { values = values_changed (initials vars) cs; acts = length cs }

abbrev pub first_acting : List Var → Acting
first_acting vars = record { values = initials vars; acts = 0 }

-- no change of n puts a number that is far above 32 bits
abbrev pub AreSmall : ℕ → List Change → Type 0
AreSmall n cs = AllByRecursion (λ (c : Change). c.value < 2 ^ 32 + n) cs
