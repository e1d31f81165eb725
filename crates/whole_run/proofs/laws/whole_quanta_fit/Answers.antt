use Rattle.whole_run.proofs.Fitting.{whole_fit}
use Rattle.whole_run.proofs.laws.whole_quanta_fit.Goals as goal

pub returns : goal.returns
returns c = whole_fit
