use Rattle.machine.proofs.Leaving as proof
use Rattle.machine.proofs.laws.leaves_soon.Goals as goal

pub returns : goal.returns
returns c = proof.leaves_soon
