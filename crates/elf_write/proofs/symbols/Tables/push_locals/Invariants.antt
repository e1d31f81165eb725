use Rattle.std.proofs.Common.{◌≡◌, ◌+◌, ◌≤◌, ◌++◌, length, drop, not}
use Rattle.std.specs.Prelude.{filter}
use Rattle.elf_form.specs.Symbols.{is_of_program}
use Rattle.elf_write.specs.Symbols.{locals_of, local_entries, entries_bytes, names_of}
use Rattle.elf_write.proofs.symbols.Tables.push_locals.Given as goal

abbrev pub invariant-loop-symbol : goal.invariant-loop-symbol
invariant-loop-symbol l = record {
  symbols : l.self.symbols.items ++ entries_bytes (length l.self.strings.items) (local_entries l.source (filter (λ t. not (is_of_program t)) (drop l.symbol-index l.symbols))) ≡ l.initial.self.symbols.items ++ entries_bytes (length l.initial.self.strings.items) (locals_of l.symbols);
  strings : l.self.strings.items ++ names_of (local_entries l.source (filter (λ t. not (is_of_program t)) (drop l.symbol-index l.symbols))) ≡ l.initial.self.strings.items ++ names_of (locals_of l.symbols);
  locals : l.self.locals + length (local_entries l.source (filter (λ t. not (is_of_program t)) (drop l.symbol-index l.symbols))) ≡ l.initial.self.locals + length (locals_of l.symbols);
  counted : l.self.locals ≤ length l.self.strings.items;
}
