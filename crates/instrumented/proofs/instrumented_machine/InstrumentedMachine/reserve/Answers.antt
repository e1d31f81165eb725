use Rattle.instrumented.proofs.Reserved.{reserved}
use Rattle.instrumented.proofs.instrumented_machine.InstrumentedMachine.reserve.Goals as goal

pub invariant_of-self-2 : goal.invariant_of-self-2
invariant_of-self-2 c =
    let s = c.self.inside in
    reserved s.machine c.reserve.new.self s.placer c.reserve-2.new.self c.args.plans.now c.in-Some.blocks c.agenda_len.result c.reserve-2.result c.self.invariant c.in_ok-reserve.ensures.ok
    c.agenda_len.ensures c.in-Some.ensures
    c.reserve-2.ensures.placements c.reserve-2.ensures.ok c.reserve-2.ensures.err
