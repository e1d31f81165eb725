use Rattle.session.proofs.PartBins as proof
use Rattle.session.proofs.laws.parts_told.Goals as goal

pub returns : goal.returns
returns c = proof.parts_told
