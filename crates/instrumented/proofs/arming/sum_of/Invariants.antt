use Rattle.std.proofs.Common.{◌≡◌, ◌+◌, ◌-◌}
use Rattle.instrumented.specs.Sums.{sum_from}
use Rattle.instrumented.proofs.arming.sum_of.Given as goal

-- the sum of the last of them so far
abbrev pub invariant-loop-behind : goal.invariant-loop-behind
invariant-loop-behind l = l.sum ≡ sum_from l.fn.readings (l.fn.first + (l.fn.count - l.behind)) l.behind
