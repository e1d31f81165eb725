use Rattle.report_reader.proofs.ReportSpelled.{report_is_spelled}
use Rattle.report_reader.proofs.laws.report_is_spelled.Goals as goal

pub returns : goal.returns
returns c = report_is_spelled
