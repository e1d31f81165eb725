use Rattle.std.proofs.Common.{◌≡◌, ◌+◌, ◌-◌, ◌≤◌, length}
use Rattle.w3_search.specs.Nodes.{active_of, most_nodes}
use Rattle.w3_search.specs.Steps.{with_all_phases}
use Rattle.w3_search.proofs.state.State.begin_phases.Given as goal

abbrev pub invariant-loop-self : goal.invariant-loop-self
invariant-loop-self l = record {
  state : with_all_phases l.t l.self ≡ with_all_phases l.t l.fn.self;
  room : length l.self.drops + length (active_of l.self.nodes) ≤ most_nodes;
}

abbrev pub decreases-loop-self : goal.decreases-loop-self
decreases-loop-self l = length l.self.rules.phases - l.self.present
