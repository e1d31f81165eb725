use Rattle.instrument.proofs.Numbers as proof
use Rattle.instrument.proofs.laws.admissions_tell.Goals as goal

pub returns : goal.returns
returns c = proof.admissions_tell
