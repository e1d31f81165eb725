use Rattle.machine.proofs.Levels as proof
use Rattle.machine.proofs.laws.levels_go_on.Goals as goal

pub returns : goal.returns
returns c = proof.levels_go_on
