use Rattle.session.specs.NodeCandidates.{queue_of}
use Rattle.session.specs.KnownCosts.{AreKnown}
use Rattle.session.proofs.OfNodeCandidates.{OfNodeCandidates}
use Rattle.session.proofs.stored.StoredState.prepare_nodes.Given as goal

abbrev pub invariant-loop-number : goal.invariant-loop-number
invariant-loop-number l = record {
  of_node_candidates : OfNodeCandidates l.fn.inputs l.fn.self.search.nodes l.fn.force (queue_of l.fn.inputs l.fn.self.observed l.fn.self.search) l.fn.plans.items l.plans.items l.number-index l.candidates.items;
  known : AreKnown l.fn.inputs l.costs;
}
