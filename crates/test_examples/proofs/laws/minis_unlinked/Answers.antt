use Rattle.test_examples.proofs.ThreeCounters as proof
use Rattle.test_examples.proofs.laws.minis_unlinked.Goals as goal

pub returns : goal.returns
returns c = proof.minis_unlinked
