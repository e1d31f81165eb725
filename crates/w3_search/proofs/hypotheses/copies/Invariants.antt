use Rattle.std.proofs.Common.{◌≡◌, take}
use Rattle.w3_search.proofs.hypotheses.copies.Given as goal

abbrev pub invariant-loop-hypothesis : goal.invariant-loop-hypothesis
invariant-loop-hypothesis l = l.copies.items ≡ take l.hypothesis-index l.hypotheses
