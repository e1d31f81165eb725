use Rattle.whole_run.proofs.SomeSeeded.{some_seeded}
use Rattle.whole_run.proofs.laws.some_seeded.Goals as goal

pub returns : goal.returns
returns c = some_seeded
