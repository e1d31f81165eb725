use Rattle.std.proofs.Common.{ap, ◌∙◌, ◌++◌, ◌∷◌, [], length}
use Rattle.elf_write.specs.Symbols.{symbol_table, string_table, locals_of, globals_of, entry_bytes, null_entry}
use Rattle.elf_write.proofs.Entries.{whole}
use Rattle.elf_write.proofs.symbols.tables_of.Goals as goal

pub returns-clause-symbols : goal.returns-clause-symbols
unfolding symbol_table string_table
returns-clause-symbols c =
    whole (locals_of c.args.symbols.now) (globals_of c.args.symbols.now) c.push_local.new.self.symbols.items c.push_locals.new.self.symbols.items _ c.push_local.new.self.strings.items c.push_locals.new.self.strings.items
    (c.in_ok-push_local.ensures.symbols ∙ ap (λ x. x ++ entry_bytes (length c.new-2.result.items) null_entry.entry) c.new.ensures.items ∙ ap (λ x. entry_bytes (length x) null_entry.entry) c.new-2.ensures.items)
    (c.in_ok-push_local.ensures.strings ∙ ap (λ x. x ++ 0 ∷ []) c.new-2.ensures.items)
    c.in_ok-push_locals.ensures.symbols c.in_ok-push_locals.ensures.strings c.in_ok-push_globals.ensures.symbols
