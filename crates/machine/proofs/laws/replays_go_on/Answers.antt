use Rattle.machine.proofs.Replaying as proof
use Rattle.machine.proofs.laws.replays_go_on.Goals as goal

pub returns : goal.returns
returns c = proof.replays_go_on
