use Rattle.std.proofs.Common.{◌≤◌}
use Rattle.test_language.proofs.language.foci.found.Given as goal

abbrev pub invariant-loop-number : goal.invariant-loop-number
invariant-loop-number l = l.found ≤ l.number
