-- Which variables statements name, by their numbers.
use Rattle.std.specs.Prelude.{ℕ, ◌<◌, List}
use Rattle.std.specs.List.{All}
use Rattle.pn_types.specs.declared.plan.Act.{Act}
use Rattle.pn_types.specs.declared.plan.Act.TheVariants.{Up, Down, Put, Start, Stop}
use Rattle.pn_types.specs.declared.plan.Left.{Left}
use Rattle.pn_types.specs.declared.plan.Left.TheVariants.{Counter, Argument}
use Rattle.pn_types.specs.declared.plan.Stmt.{Stmt}

-- the variable that an act changes
abbrev pub changed_variable : Act → ℕ
changed_variable (Up v) = v
changed_variable (Down v) = v
changed_variable (Put v n) = v
changed_variable (Start v) = v
changed_variable (Stop v) = v

-- a counter's number is below n
abbrev pub IsLeftBelow : ℕ → Left → Type 0
IsLeftBelow n (Counter v) = v < n
IsLeftBelow n (Argument a) = Unit {0}

-- all variables of the statement have numbers below n
pub record IsStmtBelow (n : ℕ) (s : Stmt) : Type 0 where
  pub conds : All (λ c. IsLeftBelow n c.left) s.conds
  pub act : changed_variable s.act < n

-- All variables of the statements have numbers below n.
abbrev pub AreBelow : ℕ → List Stmt → Type 0
AreBelow n stmts = All (IsStmtBelow n) stmts
