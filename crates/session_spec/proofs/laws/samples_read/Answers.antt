use Rattle.session_spec.proofs.Reading as proof
use Rattle.session_spec.proofs.laws.samples_read.Goals as goal

pub returns : goal.returns
returns c = proof.samples_read
