use Rattle.tramp_spec.proofs.Harmless as proof
use Rattle.tramp_spec.proofs.laws.bodies_go_on.Goals as goal

pub returns : goal.returns
returns c = proof.bodies_go_on
