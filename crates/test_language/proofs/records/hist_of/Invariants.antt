use Rattle.std.proofs.Common.{◌≡◌}
use Rattle.test_language.proofs.records.hist_of.Given as goal

abbrev pub invariant-loop-i : goal.invariant-loop-i
invariant-loop-i l = l.hist.count ≡ l.i
