use Rattle.machine.proofs.Keeping as proof
use Rattle.machine.proofs.laws.kept.Goals as goal

pub returns : goal.returns
returns c = proof.keeps
