use Rattle.std.proofs.Common.{◌-◌, ◌≤◌, length}
use Rattle.session.proofs.Counting.{CountsOn}
use Rattle.session.proofs.preparing.count_due.Given as goal

abbrev pub invariant-loop-count : goal.invariant-loop-count
invariant-loop-count l = record {
  few : l.count ≤ length l.wishes;
  counts : CountsOn l.time l.wishes l.count;
}

abbrev pub decreases-loop-count : goal.decreases-loop-count
decreases-loop-count l = length l.wishes - l.count
