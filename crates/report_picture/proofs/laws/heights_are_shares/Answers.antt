use Rattle.report_picture.proofs.StepHeights.{heights}
use Rattle.report_picture.proofs.laws.heights_are_shares.Goals as goal

pub returns : goal.returns
returns c = heights
