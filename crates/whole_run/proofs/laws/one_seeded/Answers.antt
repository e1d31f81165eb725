use Rattle.whole_run.proofs.OneSeeded.{one_seeded}
use Rattle.whole_run.proofs.laws.one_seeded.Goals as goal

pub returns : goal.returns
returns c = one_seeded
