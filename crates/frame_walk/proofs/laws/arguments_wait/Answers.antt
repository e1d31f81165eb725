use Rattle.frame_walk.proofs.Waits as proof
use Rattle.frame_walk.proofs.laws.arguments_wait.Goals as goal

pub returns : goal.returns
returns c = proof.arguments_wait
