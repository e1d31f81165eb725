use Rattle.std.proofs.Common.{◌≡◌, take}
use Rattle.std.specs.Prelude.{option_map}
use Rattle.std.specs.List.{All}
use Rattle.code_points.specs.Procedures.{IsProcOf}
use Rattle.profile_text.specs.ProcedureRows.{rows_in}
use Rattle.profile_text.specs.Rows.{rows_named}
use Rattle.profile_text.proofs.annotating.rows_named.Given as goal

-- the chosen ones of the rows so far
abbrev pub invariant-loop-row : goal.invariant-loop-row
invariant-loop-row l = record {
  rows : rows_in l.found.items ≡ rows_named (option_map (λ s. s.now) l.name) (rows_in (take l.row-index l.rows));
  procs : All (λ x. IsProcOf l.image x.proc.now) l.found.items;
}
