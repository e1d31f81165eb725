use Rattle.test_examples.proofs.ThreeCounters as proof
use Rattle.test_examples.proofs.laws.point_unlinked.Goals as goal

pub returns : goal.returns
returns c = proof.point_unlinked
