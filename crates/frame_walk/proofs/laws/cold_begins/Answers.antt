use Rattle.frame_walk.proofs.Waits as proof
use Rattle.frame_walk.proofs.laws.cold_begins.Goals as goal

pub returns : goal.returns
returns c = proof.cold_begins
