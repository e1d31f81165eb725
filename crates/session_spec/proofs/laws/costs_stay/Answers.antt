use Rattle.session_spec.proofs.Moments as proof
use Rattle.session_spec.proofs.laws.costs_stay.Goals as goal

pub returns : goal.returns
returns c = proof.costs_stay
