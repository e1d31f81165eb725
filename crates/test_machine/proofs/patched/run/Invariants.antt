use Rattle.std.proofs.Common.{◌≡◌, length}
use Rattle.test_machine.proofs.patched.run.Given as goal

-- the machine has one hart
abbrev pub invariant-steps : goal.invariant-steps
invariant-steps g l = length l.machine.core.harts ≡ 1
