use Rattle.std.proofs.Common.{◌<◌, refl, length, arith}
use Rattle.std.proofs.lemmas.Option.{slice_get_read}
use Rattle.instrument.proofs.Going.{get_in}
use Rattle.session.proofs.Counting.{one_prepared}
use Rattle.session.proofs.preparing.prepare_wishes.Goals as goal

pub prepare_wish-requires-clause-wish : goal.prepare_wish-requires-clause-wish
prepare_wish-requires-clause-wish c =
    let low : c.loop-wish.wish-index < length c.args.wishes.now = (let l = c.loop-wish-test.true in omega arith) in
    c.requires.wishes c.wish-item.result (get_in c.args.wishes.now c.loop-wish.wish-index c.wish-item.result (slice_get_read c.args.wishes.now (length c.args.wishes.now) c.loop-wish.wish-index c.wish-item.result refl low c.wish-item.is))

pub loop-wish-preserved : goal.loop-wish-preserved
loop-wish-preserved c =
    let low : c.loop-wish.wish-index < length c.args.wishes.now = (let l = c.loop-wish-test.true in omega arith) in
    let at = slice_get_read c.args.wishes.now (length c.args.wishes.now) c.loop-wish.wish-index c.wish-item.result refl low c.wish-item.is in
    one_prepared c.args.inputs.now c.args.wishes.now c.loop-wish.wish-index c.wish-item.result c.loop-wish.plans.items c.push.new.self.items c.loop-wish.candidates.items c.push_back.new.self.items c.in_ok-plan.plan c.in_ok-plan.candidate at c.loop-wish.invariant c.in_ok-plan.ensures
    c.in_ok-push.ensures.items c.in_ok-push_back.ensures.items
