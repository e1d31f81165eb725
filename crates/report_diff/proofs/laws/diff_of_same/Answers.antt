use Rattle.report_diff.proofs.Sames.{of_same}
use Rattle.report_diff.proofs.laws.diff_of_same.Goals as goal

pub returns : goal.returns
returns c = of_same
