use Rattle.std.proofs.Common.{◌≡◌, ◌++◌, drop}
use Rattle.elf_write.specs.Fields.{words}
use Rattle.elf_write.proofs.fields.push_words.Given as goal

abbrev pub invariant-loop-number : goal.invariant-loop-number
invariant-loop-number l = l.out.items ++ words (drop l.number-index l.numbers) ≡ l.initial.out.items ++ words l.numbers
