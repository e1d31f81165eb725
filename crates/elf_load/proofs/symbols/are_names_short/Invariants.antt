use Rattle.std.proofs.Common.{◌≡◌, ◌+◌, take}
use Rattle.std.specs.Prelude.{sum_by}
use Rattle.elf_load.proofs.NameLengths.{entry_len}
use Rattle.elf_load.proofs.symbols.are_names_short.Given as goal

abbrev pub invariant-loop-entry : goal.invariant-loop-entry
invariant-loop-entry l = l.room + sum_by (entry_len l.strings) (take l.entry-index l.entries) ≡ 67108864
