use Rattle.std.proofs.Common.{◌≤◌, ◌-◌, length}
use Rattle.line_table.specs.Paths.{listed}
use Rattle.line_table.proofs.ListedLemmas.{ListedLeft}
use Rattle.line_table.proofs.listed.listed.Given as goal

-- the paths so far and those that are left are all
abbrev pub invariant-loop-paths : goal.invariant-loop-paths
invariant-loop-paths l = record {
  within : l.next ≤ length l.bytes;
  left : ListedLeft l.is_file l.bytes l.paths.items l.next (listed l.is_file l.bytes l.at);
}

abbrev pub decreases-loop-paths : goal.decreases-loop-paths
decreases-loop-paths l = length l.bytes - l.next
