use Rattle.std.specs.Prelude.{drop}
use Rattle.session_pairs.proofs.Places.{Walk}
use Rattle.session_pairs.proofs.Seeking.{IsSought}
use Rattle.session_pairs.proofs.dropping.find_tester.Given as goal

abbrev pub invariant-loop-place : goal.invariant-loop-place
invariant-loop-place l =
    Walk (IsSought l.machine.state.placer l.node l.pairs.all.items) l.machine.state.placer l.pairs.all.items (drop l.place-index l.pairs.live.items)
