use Rattle.frame_walk.proofs.Starts as proof
use Rattle.frame_walk.proofs.laws.same_starts.Goals as goal

pub returns : goal.returns
returns c = proof.same_starts
