use Rattle.report_view.proofs.Parents.{parents_above}
use Rattle.report_view.proofs.laws.tree_is_of_parents.Goals as goal

pub returns : goal.returns
returns c = parents_above
