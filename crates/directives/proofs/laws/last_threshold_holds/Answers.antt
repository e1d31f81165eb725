use Rattle.directives.proofs.Runs.{last_threshold_holds}
use Rattle.directives.proofs.laws.last_threshold_holds.Goals as goal

pub returns : goal.returns
returns c = last_threshold_holds
