use Rattle.std.proofs.Common.{◌≡◌}
use Rattle.std.specs.Prelude.{drop, map}
use Rattle.session_pairs.specs.declared.pair.SampledPair.{SampledPair}
use Rattle.session_pairs.specs.SampledPairs.{AreLive, dropped_tests}
use Rattle.session_pairs.proofs.dropping.drop_tests.Given as goal

abbrev pub invariant-loop-node : goal.invariant-loop-node
invariant-loop-node l = record {
  coming : dropped_tests (drop l.node-index l.nodes) (map (λ (k : SampledPair). k.shown) l.pairs.all.items) l.machine.state
      ≡ dropped_tests l.nodes (map (λ (k : SampledPair). k.shown) l.pairs.all.items) l.fn.machine.state;
  ready : l.machine.ready ≡ l.fn.machine.ready;
  core : l.machine.state.core ≡ l.fn.machine.state.core;
  live : AreLive l.machine.state.placer l.pairs.all.items l.pairs.live.items;
}
