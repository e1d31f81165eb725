use Rattle.instrument.proofs.Lawful as proof
use Rattle.instrument.proofs.laws.linked_is_placed.Goals as goal

pub returns : goal.returns
returns c = proof.placed_always
