-- That two Opens are the same: all parts of them are.
use Rattle.std.specs.Prelude.{ℕ, ◌==◌, ◌&&◌, Bool, List, [], ◌∷◌}
use Rattle.std.specs.Cmp.Lexicographic.{pointwise}
use Rattle.std.specs.Str.{bytes_eq}
use Rattle.pn_types.specs.declared.compare.Cmp.{Cmp}
use Rattle.pn_types.specs.declared.compare.Cmp.TheVariants.{Eq, Ne, Lt, Le, Gt, Ge}
use Rattle.pn_types.specs.declared.plan.Act.{Act}
use Rattle.pn_types.specs.declared.plan.Act.TheVariants.{Up, Down, Put, Start, Stop}
use Rattle.pn_types.specs.declared.plan.Cond.{Cond}
use Rattle.pn_types.specs.declared.plan.Left.{Left}
use Rattle.pn_types.specs.declared.plan.Left.TheVariants.{Counter, Argument}
use Rattle.pn_types.specs.declared.plan.Open.{Open}
use Rattle.pn_types.specs.declared.plan.Stmt.{Stmt}

-- ---- numbers that tell acts apart, and conditions

abbrev pub act_numbers : Act → List ℕ
act_numbers (Up v) = 0 ∷ v ∷ []
act_numbers (Down v) = 1 ∷ v ∷ []
act_numbers (Put v n) = 2 ∷ v ∷ n ∷ []
act_numbers (Start v) = 3 ∷ v ∷ []
act_numbers (Stop v) = 4 ∷ v ∷ []

abbrev pub cmp_number : Cmp → ℕ
cmp_number Eq = 0
cmp_number Ne = 1
cmp_number Lt = 2
cmp_number Le = 3
cmp_number Gt = 4
cmp_number Ge = 5

abbrev pub left_numbers : Left → List ℕ
left_numbers (Counter v) = 0 ∷ v ∷ []
left_numbers (Argument a) = 1 ∷ a ∷ []

-- ---- the same

abbrev pub is_act : Act → Act → Bool
is_act a b = bytes_eq (act_numbers a) (act_numbers b)

abbrev pub is_cond : Cond → Cond → Bool
is_cond c d = bytes_eq (left_numbers c.left) (left_numbers d.left) && ((cmp_number c.cmp == cmp_number d.cmp) && (c.right == d.right))

abbrev pub is_stmt : Stmt → Stmt → Bool
is_stmt s t = pointwise is_cond s.conds t.conds && is_act s.act t.act

abbrev pub is_open : Open → Open → Bool
is_open o p = (o.start == p.start) && ((o.len == p.len) && pointwise is_stmt o.stmts p.stmts)
