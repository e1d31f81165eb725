-- What is drawn first of seed 0.
use Rattle.std.proofs.Common.{◌≡◌, refl}
use Rattle.stress_run.specs.Program.{drawn, loop_length}

pub first_loop_length : loop_length 0 ≡ 8
unfolding drawn
first_loop_length = refl
