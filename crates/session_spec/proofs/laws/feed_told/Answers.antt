use Rattle.session_spec.proofs.Feeding as proof
use Rattle.session_spec.proofs.laws.feed_told.Goals as goal

pub returns : goal.returns
returns c = proof.feed_told
