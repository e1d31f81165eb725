use Rattle.report_view.proofs.Heights.{heights}
use Rattle.report_view.proofs.laws.heights_are_shares.Goals as goal

pub returns : goal.returns
returns c = heights
