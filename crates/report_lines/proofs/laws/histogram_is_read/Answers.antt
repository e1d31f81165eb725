use Rattle.report_lines.proofs.HistogramRead.{histogram_is_read}
use Rattle.report_lines.proofs.laws.histogram_is_read.Goals as goal

pub returns : goal.returns
returns c = histogram_is_read
