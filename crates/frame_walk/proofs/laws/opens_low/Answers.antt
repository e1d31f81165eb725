use Rattle.frame_walk.proofs.Rooms as proof
use Rattle.frame_walk.proofs.laws.opens_low.Goals as goal

pub returns : goal.returns
returns c = proof.opens_low
