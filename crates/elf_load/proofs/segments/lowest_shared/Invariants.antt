use Rattle.std.proofs.Common.{◌≡◌, drop}
use Rattle.elf_form.specs.Segments.{lower, lowest_shared}
use Rattle.elf_load.proofs.segments.lowest_shared.Given as goal

abbrev pub invariant-loop-i : goal.invariant-loop-i
invariant-loop-i l = lower l.lowest (lowest_shared (drop l.i l.loads)) ≡ lowest_shared l.loads
