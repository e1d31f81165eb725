use Rattle.std.proofs.Common.{◌≡◌, ◌++◌, drop}
use Rattle.elf_write.specs.Fields.{doublewords}
use Rattle.elf_write.proofs.fields.push_doublewords.Given as goal

abbrev pub invariant-loop-number : goal.invariant-loop-number
invariant-loop-number l = l.out.items ++ doublewords (drop l.number-index l.numbers) ≡ l.initial.out.items ++ doublewords l.numbers
