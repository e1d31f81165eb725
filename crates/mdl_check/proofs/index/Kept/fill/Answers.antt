use Rattle.mdl_check.proofs.Keeping.{next_kept}
use Rattle.mdl_check.proofs.index.Kept.fill.Goals as goal

pub loop-place-preserved : goal.loop-place-preserved
loop-place-preserved c =
    next_kept c.args.all.now c.loop-place.place c.index-all-place.result c.loop-place.self c.add.new.self c.loop-place-test.true c.index-all-place.is c.loop-place.invariant c.in_ok-add.ensures
