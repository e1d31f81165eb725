use Rattle.prim_code.proofs.Keeping as proof
use Rattle.prim_code.proofs.laws.standing_kept.Goals as goal

pub returns : goal.returns
returns c = proof.standing_kept
