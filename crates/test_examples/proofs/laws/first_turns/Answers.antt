use Rattle.test_examples.proofs.FirstTurns as proof
use Rattle.test_examples.proofs.laws.first_turns.Goals as goal

pub returns : goal.returns
returns c = proof.first_turns
