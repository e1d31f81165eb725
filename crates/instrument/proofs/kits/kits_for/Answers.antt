use Rattle.instrument.proofs.Grown.{item_in}
use Rattle.instrument.proofs.kits.kits_for.Goals as goal

pub new-requires : goal.new-requires
new-requires c = c.requires _ (item_in c.args.plans.now c.loop-plan.plan-index _ c.loop-plan-test.true c.plan-item.is)
