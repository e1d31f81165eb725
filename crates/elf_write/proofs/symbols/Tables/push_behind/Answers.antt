use Rattle.std.proofs.Common.{◌≡◌, ap, ◌∙◌, sym, false, ◌++◌, ◌∷◌, [], length}
use Rattle.std.specs.Str.{bytes_eq}
use Rattle.elf_write.specs.Symbols.{entry_bytes}
use Rattle.elf_write.proofs.Entries.{file_first}
use Rattle.elf_write.proofs.symbols.Tables.push_behind.Goals as goal

pub returns-clause-symbols : goal.returns-clause-symbols
returns-clause-symbols c =
    let other : bytes_eq c.args.symbol.now.module c.args.source.now ≡ false = ap (λ m. bytes_eq m c.args.source.now) (sym c.bytes-module.ensures) ∙ sym c.is_same.ensures ∙ c.if-is_same.false in
    file_first c.args.source.now c.args.symbol.now _ c.push_local-2.new.self.symbols.items _ c.args.self.now.strings.items c.push_local-2.new.self.strings.items other
    c.in_ok-push_local-2.ensures.symbols (c.in_ok-push_local-2.ensures.strings ∙ ap (λ m. c.args.self.now.strings.items ++ (m ++ 0 ∷ [])) c.bytes-module.ensures)
    (c.in_ok-push_local-3.ensures.symbols ∙ ap (λ e. c.push_local-2.new.self.symbols.items ++ entry_bytes (length c.push_local-2.new.self.strings.items) e) c.entry_with-2.ensures)
