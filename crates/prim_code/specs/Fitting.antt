-- Which statements fit a plan's variables, and which plans the tool's code measures.
use Rattle.std.specs.Prelude.{◌≡◌, ℕ, ◌^◌, ◌<◌, ◌≤◌, ◌==◌, Bool, true, false, Some, List, length, slice_get}
use Rattle.std.specs.List.{AllByRecursion, IsDistinct}
use Rattle.std.specs.Option.{option_map}
use Rattle.pn_types.specs.declared.plan.Act.{Act}
use Rattle.pn_types.specs.declared.plan.Act.TheVariants.{Up, Down, Put, Start, Stop}
use Rattle.pn_types.specs.declared.plan.Cond.{Cond}
use Rattle.pn_types.specs.declared.plan.Left.{Left}
use Rattle.pn_types.specs.declared.plan.Left.TheVariants.{Counter, Argument}
use Rattle.pn_types.specs.declared.plan.Plan.{Plan}
use Rattle.pn_types.specs.declared.plan.Stmt.{Stmt}
use Rattle.pn_types.specs.declared.plan.Var.{Var}
use Rattle.prim_code.specs.Counts.{stmt_words}

-- there is a variable of this number, and it is a timer, or a counter
abbrev pub Names : List Var → Bool → ℕ → Type 0
Names vars timer v = option_map (λ x. x.timer) (slice_get vars v) ≡ Some timer

-- a counter, or one of the arguments 0 to 7
abbrev pub IsLeftOf : List Var → Left → Type 0
IsLeftOf vars (Counter v) = Names vars false v
IsLeftOf vars (Argument a) = a < 8

-- counters are counted, and timers are started and stopped
abbrev pub IsActOf : List Var → Act → Type 0
IsActOf vars (Up v) = Names vars false v
IsActOf vars (Down v) = Names vars false v
IsActOf vars (Put v n) = Names vars false v × (n < 2 ^ 31)
IsActOf vars (Start v) = Names vars true v
IsActOf vars (Stop v) = Names vars true v

-- numbers have 31 bits, which two words put into a register
abbrev pub IsCondOf : List Var → Cond → Type 0
IsCondOf vars c = IsLeftOf vars c.left × (c.right < 2 ^ 31)

-- a statement fits the variables, and is so short that a branch leads over it
pub record IsStmtOf (vars : List Var) (s : Stmt) : Type 0 where
  pub short : stmt_words s < 1024
  pub conds : AllByRecursion (IsCondOf vars) s.conds
  pub act : IsActOf vars s.act

-- All statements fit the variables.
abbrev pub AreStmtsOf : List Var → List Stmt → Type 0
AreStmtsOf vars stmts = AllByRecursion (IsStmtOf vars) stmts

-- What a plan is within, so that its code measures it: values of 32 bits to begin with, sites of different addresses, with at most
-- 32 statements each, which fit the variables, and Opens with such statements.
pub record IsMeasurable (plan : Plan) : Type 0 where
  pub narrow : AllByRecursion (λ v. v.initially < 2 ^ 32) plan.vars
  pub apart : IsDistinct (λ a b. a.at == b.at) plan.sites
  pub few : AllByRecursion (λ s. length s.stmts ≤ 32) plan.sites
  pub fitting : AllByRecursion (λ s. AreStmtsOf plan.vars s.stmts) plan.sites
  pub opens_few : AllByRecursion (λ o. length o.stmts ≤ 32) plan.opens
  pub opens_fitting : AllByRecursion (λ o. AreStmtsOf plan.vars o.stmts) plan.opens
