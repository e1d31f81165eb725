use Rattle.session_spec.proofs.Keeping as proof
use Rattle.session_spec.proofs.laws.bins_told.Goals as goal

pub returns : goal.returns
returns c = proof.bins_told
