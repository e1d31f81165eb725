use Rattle.std.proofs.Common.{◌≡◌, ◌+◌, drop}
use Rattle.std.specs.Prelude.{sum_by}
use Rattle.profile_text.specs.ProcedureRows.{rows_in}
use Rattle.profile_text.proofs.table.total.Given as goal

-- what is counted, and the ticks that are left, make all
abbrev pub invariant-loop-row : goal.invariant-loop-row
invariant-loop-row l = l.total + sum_by (λ x. x.ticks) (rows_in (drop l.row-index l.rows)) ≡ sum_by (λ x. x.ticks) (rows_in l.rows)
