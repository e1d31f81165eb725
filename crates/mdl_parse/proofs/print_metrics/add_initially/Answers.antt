use Rattle.mdl_parse.proofs.print_metrics.add_initially.Goals as goal

pub returns-in-Some : goal.returns-in-Some
returns-in-Some c = rw c.in-Some.is c.add.ensures
