use Rattle.std.proofs.Common.{length, ◌-◌, ◌≤◌}
use Rattle.line_table.specs.Paths.{paths_of, paths_of_unit}
use Rattle.line_table.proofs.UnitLemmas.{UnitsLeft}
use Rattle.line_table.proofs.paths.paths_of.Given as goal

-- those so far and those of the units that are left are all
abbrev pub invariant-loop-at : goal.invariant-loop-at
invariant-loop-at l = record {
  within : l.at ≤ length l.bytes;
  left : UnitsLeft (paths_of_unit l.ends l.bytes) l.bytes l.units.items l.at (paths_of l.ends l.bytes);
}

abbrev pub decreases-loop-at : goal.decreases-loop-at
decreases-loop-at l = length l.bytes - l.at
