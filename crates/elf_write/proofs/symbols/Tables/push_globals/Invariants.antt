use Rattle.std.proofs.Common.{◌≡◌, ◌++◌, length, drop}
use Rattle.elf_write.specs.Symbols.{globals_of, entries_bytes, names_of}
use Rattle.elf_write.proofs.symbols.Tables.push_globals.Given as goal

abbrev pub invariant-loop-symbol : goal.invariant-loop-symbol
invariant-loop-symbol l = record {
  symbols : l.self.symbols.items ++ entries_bytes (length l.self.strings.items) (globals_of (drop l.symbol-index l.symbols)) ≡ l.initial.self.symbols.items ++ entries_bytes (length l.initial.self.strings.items) (globals_of l.symbols);
  strings : l.self.strings.items ++ names_of (globals_of (drop l.symbol-index l.symbols)) ≡ l.initial.self.strings.items ++ names_of (globals_of l.symbols);
  locals : l.self.locals ≡ l.initial.self.locals;
}
