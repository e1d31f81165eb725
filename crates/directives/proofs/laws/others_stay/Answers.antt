use Rattle.directives.proofs.Staying.{others_stay}
use Rattle.directives.proofs.laws.others_stay.Goals as goal

pub returns : goal.returns
returns c = others_stay c.one_answer.ensures
