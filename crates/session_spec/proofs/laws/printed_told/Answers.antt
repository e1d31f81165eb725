use Rattle.session_spec.proofs.Printing as proof
use Rattle.session_spec.proofs.laws.printed_told.Goals as goal

pub returns : goal.returns
returns c = proof.printed_told
