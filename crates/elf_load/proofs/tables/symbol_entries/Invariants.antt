use Rattle.std.proofs.Common.{◌≡◌, ◌+◌, ◌-◌, ◌*◌, ◌++◌}
use Rattle.elf_form.specs.Fields.{table, symbol_entry_of}
use Rattle.elf_load.proofs.tables.symbol_entries.Given as goal

abbrev pub invariant-loop-i : goal.invariant-loop-i
invariant-loop-i l = l.entries.items ++ table symbol_entry_of 24 l.bytes (l.count - l.i) (l.start + l.i * 24) ≡ table symbol_entry_of 24 l.bytes l.count l.start
