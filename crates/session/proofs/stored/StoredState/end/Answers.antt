use Rattle.machine.specs.States.{settling}
use Rattle.session.proofs.Sampling.{can_taken}
use Rattle.session.proofs.stored.StoredState.end.Goals as goal

pub sample-requires-clause-sampled : goal.sample-requires-clause-sampled
sample-requires-clause-sampled c =
    let old = c.args.self.now in
    can_taken old c.settle.new.self c.requires.sampled (settling old.machine.state.core) c.settle.ensures.table c.settle.ensures.harts
