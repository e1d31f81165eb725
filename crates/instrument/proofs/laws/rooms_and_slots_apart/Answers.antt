use Rattle.instrument.proofs.Lawful as proof
use Rattle.instrument.proofs.laws.rooms_and_slots_apart.Goals as goal

pub returns : goal.returns
returns c = proof.apart_always
