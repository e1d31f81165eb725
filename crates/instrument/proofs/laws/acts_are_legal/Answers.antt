use Rattle.instrument.proofs.Lawful as proof
use Rattle.instrument.proofs.laws.acts_are_legal.Goals as goal

pub returns : goal.returns
returns c = proof.legal_always
