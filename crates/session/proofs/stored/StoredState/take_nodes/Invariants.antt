use Rattle.session.proofs.Takings.{Taking}
use Rattle.session.proofs.stored.StoredState.take_nodes.Given as goal

abbrev pub invariant-loop-plan : goal.invariant-loop-plan
invariant-loop-plan l = Taking l.fn.inputs l.fn.plans l.fn.candidates.items l.fn.self l.plan-index l.self l.candidates.items l.force
