use Rattle.advice.proofs.AdviceRead.{report_is_advised}
use Rattle.advice.proofs.laws.report_is_advised.Goals as goal

pub returns : goal.returns
returns c = report_is_advised
