use Rattle.advice.proofs.ReportRead.{report_is_read}
use Rattle.advice.proofs.laws.report_is_read.Goals as goal

pub returns : goal.returns
returns c = report_is_read
