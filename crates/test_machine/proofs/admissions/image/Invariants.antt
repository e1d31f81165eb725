use Rattle.std.proofs.Common.{◌≡◌, ◌*◌, length}
use Rattle.test_machine.proofs.admissions.image.Given as goal

abbrev pub invariant-loop : goal.invariant-loop
invariant-loop l = length l.bytes.items ≡ 4 * l.counter
