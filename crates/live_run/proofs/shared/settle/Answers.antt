use Rattle.live_run.proofs.Locks.{settled}
use Rattle.live_run.proofs.shared.settle.Goals as goal

pub returns : goal.returns
returns c b is =
    let f = c.close_with-closed.ensures.values.2 in
    settled _ _ f.0 _ _ b f.1 is
