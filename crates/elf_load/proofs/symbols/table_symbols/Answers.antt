use Rattle.std.proofs.Common.{List, length, ap, sym, ◌∙◌, arith}
use Rattle.std.proofs.lemmas.Bool.{leb-true}
use Rattle.elf_form.specs.Symbols.{symbols_from}
use Rattle.elf_form.specs.Accepted.{names_len}
use Rattle.elf_form.specs.declared.symbol.SymbolEntry.{SymbolEntry}
use Rattle.pn_types.specs.GoodNames.{program_module}
use Rattle.elf_form.proofs.Countable.{from_len, last_len as last_count}
use Rattle.elf_load.proofs.NameLengths.{last_len}
use Rattle.elf_load.proofs.symbols.table_symbols.Goals as goal

pub returns-clause-named : goal.returns-clause-named
returns-clause-named c =
    let found = λ (es : List SymbolEntry). symbols_from c.part-names.result.now program_module es in
    let same = c.deref-3.ensures.value ∙ sym c.deref-2.ensures.value in
    let short = leb-true (names_len (found c.deref-2.result.now)) 67108864 (sym c.are_names_short.ensures ∙ c.if-not-are_names_short.false) in
    omega (arith, short, ap (λ es. names_len (found es)) same, last_len (found c.deref-3.result.now), ap (λ ss. names_len ss) c.in_ok-gather.ensures)

pub returns-clause-few : goal.returns-clause-few
returns-clause-few c =
    let entries = c.deref-3.result.now in
    let found = symbols_from c.part-names.result.now program_module entries in
    omega (arith, from_len c.part-names.result.now program_module entries, last_count found, ap (λ ss. length ss) c.in_ok-gather.ensures, ap (λ es. length es) c.deref-3.ensures.value)
