use Rattle.instrument.proofs.Numbers as proof
use Rattle.instrument.proofs.laws.states_stay.Goals as goal

pub returns : goal.returns
returns c = proof.states_stay
