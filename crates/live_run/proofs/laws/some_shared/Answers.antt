use Rattle.live_run.proofs.SomeShared.{some_shared}
use Rattle.live_run.proofs.laws.some_shared.Goals as goal

pub returns : goal.returns
returns c = some_shared
