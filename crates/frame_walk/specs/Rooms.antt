-- How far values are from the end of their range while the statements of Opens act.
use Rattle.std.specs.Prelude.{ℕ, ◌+◌, ◌^◌, ◌<◌, ◌≤◌, List, length}
use Rattle.std.specs.List.{AllByRecursion}
use Rattle.pn_types.specs.declared.plan.Act.{Act}
use Rattle.pn_types.specs.declared.plan.Act.TheVariants.{Up, Down, Put, Start, Stop}
use Rattle.pn_types.specs.declared.plan.Stmt.{Stmt}
use Rattle.pn_types.specs.declared.plan.Open.{Open}

-- an act puts no number of more than 32 bits
abbrev pub IsNarrow : Act → Type 0
IsNarrow (Up v) = Unit {0}
IsNarrow (Down v) = Unit {0}
IsNarrow (Put v n) = n < 2 ^ 32
IsNarrow (Start v) = Unit {0}
IsNarrow (Stop v) = Unit {0}

abbrev pub most_stmts : ℕ
most_stmts = 32

-- an Open has at most 32 statements, which put no number of more than 32 bits
pub record IsSmall (o : Open) : Type 0 where
  pub few : length o.stmts ≤ most_stmts
  pub narrow : AllByRecursion (λ (s : Stmt). IsNarrow s.act) o.stmts

-- each value plus n is below 2^63
abbrev pub HasRoom : ℕ → List ℕ → Type 0
HasRoom n values = AllByRecursion (λ v. v + n < 2 ^ 63) values
