use Rattle.report_diff.proofs.Nothing.{from_line}
use Rattle.report_diff.proofs.laws.nothing_differs.Goals as goal

pub returns : goal.returns
returns c = from_line
