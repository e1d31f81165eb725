use Rattle.std.proofs.Common.{length, ◌-◌}
use Rattle.line_table.specs.Programs.{program_rows}
use Rattle.line_table.specs.Checks.{with_front}
use Rattle.line_table.proofs.RowLemmas.{Left}
use Rattle.line_table.proofs.program.push_rows.Given as goal

-- the rows so far and those that are left are all
abbrev pub invariant-loop-at : goal.invariant-loop-at
invariant-loop-at l = Left l.rows.items l.header l.bytes l.registers l.at (with_front l.fn.rows.items (program_rows l.header l.bytes))

abbrev pub decreases-loop-at : goal.decreases-loop-at
decreases-loop-at l = length l.bytes - l.at
