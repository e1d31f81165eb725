use Rattle.std.proofs.Common.{length, ◌-◌, ◌≤◌}
use Rattle.line_table.specs.Tables.{rows_of, rows_of_unit}
use Rattle.line_table.proofs.UnitLemmas.{UnitsLeft}
use Rattle.line_table.proofs.program.rows_of.Given as goal

-- the rows so far and those of the units that are left are all
abbrev pub invariant-loop-at : goal.invariant-loop-at
invariant-loop-at l = record {
  within : l.at ≤ length l.bytes;
  left : UnitsLeft (rows_of_unit l.bytes) l.bytes l.rows.items l.at (rows_of l.bytes);
}

abbrev pub decreases-loop-at : goal.decreases-loop-at
decreases-loop-at l = length l.bytes - l.at
