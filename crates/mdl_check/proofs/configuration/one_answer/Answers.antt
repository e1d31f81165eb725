use Rattle.mdl_check.proofs.OneAnswer.{one_answer}
use Rattle.mdl_check.proofs.configuration.one_answer.Goals as goal

pub returns : goal.returns
returns c t shipped items a b x y = one_answer c.one_reading.ensures.selection t shipped items a b x y
