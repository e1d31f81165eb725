use Rattle.std.proofs.Common.{◌≡◌}
use Rattle.test_calls.proofs.streams.take_two.Given as goal

abbrev pub invariant-loop : goal.invariant-loop
invariant-loop g l = l.view.line ≡ l.fn.view.line
