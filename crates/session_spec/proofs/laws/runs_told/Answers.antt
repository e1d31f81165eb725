use Rattle.session_spec.proofs.Reading as proof
use Rattle.session_spec.proofs.laws.runs_told.Goals as goal

pub returns : goal.returns
returns c = proof.runs_told
