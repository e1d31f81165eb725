use Rattle.std.proofs.Common.{◌≡◌, ◌+◌, ◌*◌, ◌≤◌, ◌^◌}
use Rattle.std.specs.Prelude.{drop}
use Rattle.session_pairs.proofs.Sums.{sum_at}
use Rattle.session.specs.NodeCandidates.{counted, force_in}
use Rattle.session.proofs.stored.StoredState.in_force.Given as goal

abbrev pub invariant-loop-place : goal.invariant-loop-place
invariant-loop-place l = record {
  sum : l.force + sum_at (counted l.fn.self.machine.state.placer) l.fn.self.pairs (drop l.place-index l.fn.self.live) ≡ force_in l.fn.self.machine.state.placer l.fn.self.pairs;
  low : l.force ≤ 2 ^ 32 * l.place-index;
}
