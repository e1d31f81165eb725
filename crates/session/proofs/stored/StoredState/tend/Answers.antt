use Rattle.machine.specs.States.{quantum_turns}
use Rattle.session.proofs.Sampling.{can_handed, can_taken}
use Rattle.session.proofs.stored.StoredState.tend.Goals as goal

pub work-requires-clause-sampled : goal.work-requires-clause-sampled
work-requires-clause-sampled c =
    let old = c.args.self.now in
    let turned = c.turn-owns.new.self in
    let can = can_taken old turned c.requires.sampled (quantum_turns c.args.most c.args.hart old.machine.state.core) c.turn-owns.ensures.table c.turn-owns.ensures.harts in
    can_handed turned c.hand_out.new.self can c.hand_out.ensures.table c.hand_out.ensures.harts
