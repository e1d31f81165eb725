use Rattle.std.proofs.Common.{◌≡◌, take}
use Rattle.w3_search.proofs.state.copies.Given as goal

abbrev pub invariant-loop-phase : goal.invariant-loop-phase
invariant-loop-phase l = l.copies.items ≡ take l.phase-index l.phases
