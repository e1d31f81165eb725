use Rattle.advice.proofs.AdviceRead.{advice_is_read}
use Rattle.advice.proofs.laws.advice_is_read.Goals as goal

pub returns : goal.returns
returns c = advice_is_read
