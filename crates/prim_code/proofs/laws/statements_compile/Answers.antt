use Rattle.prim_code.proofs.Naming as proof
use Rattle.prim_code.proofs.laws.statements_compile.Goals as goal

pub returns : goal.returns
returns c = proof.statements_compile
