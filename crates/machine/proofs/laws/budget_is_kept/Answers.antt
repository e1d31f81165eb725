use Rattle.machine.proofs.Quanta as proof
use Rattle.machine.proofs.laws.budget_is_kept.Goals as goal

pub returns : goal.returns
returns c = proof.budget_is_kept
