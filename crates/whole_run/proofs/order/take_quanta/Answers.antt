use Rattle.std.proofs.Common.{arith}
use Rattle.whole_run.proofs.Ordered.{seeded_by, stand_full}
use Rattle.whole_run.proofs.order.take_quanta.Goals as goal

pub returns-clause-seeded : goal.returns-clause-seeded
returns-clause-seeded g c =
    let k = c.quanta.invariant in
    let past = c.quanta-test.false in
    let number = k.number in
    seeded_by _ _ _ _ _ _ c.quanta.session.quanta k.inputs k.seed k.turns
    (stand_full c.quanta.rounds c.quanta.session k.stand c.laws.ensures.allowed (omega arith))
