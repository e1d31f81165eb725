use Rattle.report_view.proofs.causes.+add_causes_from.Given as goal

abbrev pub decreases-add_causes_from : goal.decreases-add_causes_from
decreases-add_causes_from l = l.depth
