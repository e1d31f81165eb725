use Rattle.machine.proofs.Quanta as proof
use Rattle.machine.proofs.laws.quanta_are_legal.Goals as goal

pub returns : goal.returns
returns c = proof.quanta_are_legal
