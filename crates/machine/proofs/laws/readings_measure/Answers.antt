use Rattle.machine.proofs.Readings as proof
use Rattle.machine.proofs.laws.readings_measure.Goals as goal

pub returns : goal.returns
returns c = proof.readings_measure
