-- For proofs alone: procedures that can be found by their addresses.
use Rattle.std.specs.Prelude.{◌<◌, if◌then◌else◌, Bool, Option, Some, None, List}
use Rattle.std.specs.List.{All}
use Rattle.code_points.specs.Procedures.{Ascend}
use Rattle.pn_types.specs.declared.code.Proc.{Proc}

-- procedures that ascend, of which none is empty
pub record DoAscend (procs : List Proc) : Type 0 where
  pub ascend : Ascend procs
  pub some : All (λ p. 0 < p.len) procs

-- what is found, where it passes a test
abbrev pub option_if : {X : Type 0} → (X → Bool) → Option X → Option X
option_if test None = None
option_if test (Some x) = if test x then Some x else None
