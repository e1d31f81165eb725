use Rattle.std.proofs.Common.{◌≡◌, ◌++◌, not, drop}
use Rattle.std.specs.Prelude.{filter}
use Rattle.elf_form.specs.Symbols.{symbols_from, is_of_program}
use Rattle.pn_types.specs.GoodNames.{program_module}
use Rattle.elf_load.proofs.symbols.gather.Given as goal

abbrev pub invariant-loop-entry : goal.invariant-loop-entry
invariant-loop-entry l = record {
  others : l.others.items ++ filter (λ s. not (is_of_program s)) (symbols_from l.strings l.source (drop l.entry-index l.entries)) ≡ filter (λ s. not (is_of_program s)) (symbols_from l.strings program_module l.entries);
  own : l.own.items ++ filter is_of_program (symbols_from l.strings l.source (drop l.entry-index l.entries)) ≡ filter is_of_program (symbols_from l.strings program_module l.entries);
}
