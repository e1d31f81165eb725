use Rattle.std.proofs.Common.{◌≡◌, ◌++◌, drop}
use Rattle.elf_write.specs.Fields.{halves}
use Rattle.elf_write.proofs.fields.push_halves.Given as goal

abbrev pub invariant-loop-number : goal.invariant-loop-number
invariant-loop-number l = l.out.items ++ halves (drop l.number-index l.numbers) ≡ l.initial.out.items ++ halves l.numbers
