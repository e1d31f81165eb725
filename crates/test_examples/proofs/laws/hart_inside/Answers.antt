use Rattle.test_examples.proofs.HartInside as proof
use Rattle.test_examples.proofs.laws.hart_inside.Goals as goal

pub returns : goal.returns
returns c = proof.hart_inside
