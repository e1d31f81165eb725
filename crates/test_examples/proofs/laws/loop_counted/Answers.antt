use Rattle.test_examples.proofs.LoopCounted as proof
use Rattle.test_examples.proofs.laws.loop_counted.Goals as goal

pub returns : goal.returns
returns c = proof.loop_counted
