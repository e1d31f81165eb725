use Rattle.std.proofs.Common.{◌≡◌, ◌++◌, drop, map}
use Rattle.profile_text.specs.ProcedureRows.{rows_in}
use Rattle.commands.specs.Asking.{executed_in}
use Rattle.commands.proofs.asking.executed.Given as goal

-- the procedures so far, and those of the rows that are left, are all
abbrev pub invariant-loop-row : goal.invariant-loop-row
invariant-loop-row l = map (λ proc. proc.now) l.procs.items ++ executed_in (rows_in (drop l.row-index l.rows)) ≡ executed_in (rows_in l.rows)
