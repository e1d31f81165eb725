use Rattle.instrument.proofs.Examples as proof
use Rattle.instrument.proofs.laws.comes_and_goes.Goals as goal

pub returns : goal.returns
returns c = proof.comes_and_goes
