use Rattle.std.proofs.Common.{◌≡◌, drop}
use Rattle.elf_form.specs.Symbols.{symbol_table}
use Rattle.elf_load.proofs.symbols.symbol_table.Given as goal

abbrev pub invariant-loop-section : goal.invariant-loop-section
invariant-loop-section l = symbol_table (drop l.section-index l.sections) ≡ symbol_table l.sections
