use Rattle.machine.proofs.Erasing as proof
use Rattle.machine.proofs.laws.erasure.Goals as goal

pub returns : goal.returns
returns c = proof.erasure
