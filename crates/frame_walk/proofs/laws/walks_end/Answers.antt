use Rattle.frame_walk.proofs.Lengths as proof
use Rattle.frame_walk.proofs.laws.walks_end.Goals as goal

pub returns : goal.returns
returns c = proof.walks_end
