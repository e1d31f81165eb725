use Rattle.report_view.proofs.Counts.{each_once}
use Rattle.report_view.proofs.laws.tree_has_each.Goals as goal

pub returns : goal.returns
returns c = each_once
