use Rattle.mdl_check.proofs.collect.checked.Goals as goal

pub fill-requires-clause-none : goal.fill-requires-clause-none
fill-requires-clause-none c = c.none-items.ensures c.args.index.now
