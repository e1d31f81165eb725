use Rattle.session_spec.proofs.Nodes as proof
use Rattle.session_spec.proofs.laws.verdicts_told.Goals as goal

pub returns : goal.returns
returns c = proof.verdicts_told
