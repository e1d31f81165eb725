use Rattle.directives.proofs.Runs.{axis_is_gone}
use Rattle.directives.proofs.laws.axis_is_gone.Goals as goal

pub returns : goal.returns
returns c = axis_is_gone
