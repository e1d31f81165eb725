use Rattle.machine.proofs.Opened as proof
use Rattle.machine.proofs.laws.arming_sets.Goals as goal

pub returns : goal.returns
returns c = proof.arming_sets
