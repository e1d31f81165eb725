use Rattle.std.proofs.Common.{◌≡◌, map, take}
use Rattle.std.specs.List.{All}
use Rattle.code_points.specs.Procedures.{IsProcOf}
use Rattle.profile_text.specs.ProcedureRows.{rows_in}
use Rattle.profile_text.specs.Rows.{procedure_row}
use Rattle.profile_text.proofs.ordering.procedure_rows.Given as goal

-- the rows of the procedures so far
abbrev pub invariant-loop-proc : goal.invariant-loop-proc
invariant-loop-proc l = record {
  rows : rows_in l.rows.items ≡ map (procedure_row l.text.image.now l.text.profile.now) (take l.proc-index l.text.procs.now);
  procs : All (λ x. IsProcOf l.text.image.now x.proc.now) l.rows.items;
}
