use Rattle.session_spec.proofs.Opening as proof
use Rattle.session_spec.proofs.laws.opens_at_zero.Goals as goal

pub returns : goal.returns
returns c = proof.opens_at_zero
