use Rattle.test_examples.proofs.WarmTimer as proof
use Rattle.test_examples.proofs.laws.warm_timer.Goals as goal

pub returns : goal.returns
returns c = proof.warm_timer
