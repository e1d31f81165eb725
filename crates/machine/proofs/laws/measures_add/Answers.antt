use Rattle.machine.proofs.Sums as proof
use Rattle.machine.proofs.laws.measures_add.Goals as goal

pub returns : goal.returns
returns c = proof.measures_add
