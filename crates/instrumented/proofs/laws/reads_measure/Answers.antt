use Rattle.instrumented.proofs.Reading as proof
use Rattle.instrumented.proofs.laws.reads_measure.Goals as goal

pub returns : goal.returns
returns c = proof.reads_measure
