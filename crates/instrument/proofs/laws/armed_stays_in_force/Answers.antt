use Rattle.instrument.proofs.Lawful as proof
use Rattle.instrument.proofs.laws.armed_stays_in_force.Goals as goal

pub returns : goal.returns
returns c = proof.force_always
