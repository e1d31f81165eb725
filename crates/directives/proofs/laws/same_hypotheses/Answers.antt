use Rattle.directives.proofs.Staying.{same_hypotheses}
use Rattle.directives.proofs.laws.same_hypotheses.Goals as goal

pub returns : goal.returns
returns c = same_hypotheses
