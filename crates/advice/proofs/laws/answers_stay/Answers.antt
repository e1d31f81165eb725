use Rattle.advice.proofs.Answers.{answers_stay}
use Rattle.advice.proofs.laws.answers_stay.Goals as goal

pub returns : goal.returns
returns c = answers_stay
