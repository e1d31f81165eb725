use Rattle.session_spec.proofs.Barring as proof
use Rattle.session_spec.proofs.laws.bars_told.Goals as goal

pub returns : goal.returns
returns c = proof.bars_told
