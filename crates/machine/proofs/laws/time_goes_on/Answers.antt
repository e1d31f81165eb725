use Rattle.machine.proofs.Quanta as proof
use Rattle.machine.proofs.laws.time_goes_on.Goals as goal

pub returns : goal.returns
returns c = proof.time_goes_on
