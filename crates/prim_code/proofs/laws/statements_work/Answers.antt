use Rattle.prim_code.proofs.Whole as proof
use Rattle.prim_code.proofs.laws.statements_work.Goals as goal

pub returns : goal.returns
returns c = proof.statements_work
