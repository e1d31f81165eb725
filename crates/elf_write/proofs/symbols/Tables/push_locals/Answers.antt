use Rattle.std.proofs.Common.{◌≡◌, ap, ◌∙◌, sym, false, not, drop, length, ◌+◌, ◌++◌, arith, length-append}
use Rattle.std.specs.Prelude.{filter}
use Rattle.std.specs.Str.{bytes_eq}
use Rattle.elf_form.specs.Symbols.{is_of_program}
use Rattle.pn_types.specs.GoodNames.{program_module}
use Rattle.elf_write.specs.Symbols.{names_of, entries_bytes, entries_after, local_entries}
use Rattle.elf_write.proofs.Entries.{local_more, room, step_strings, step_symbols, counted}
use Rattle.elf_write.proofs.symbols.Tables.push_locals.Goals as goal

pub push_behind-requires-clause-room : goal.push_behind-requires-clause-room
push_behind-requires-clause-room c =
    let s = c.symbol-item.result in
    let now = c.loop-symbol.self.strings.items in
    let other : bytes_eq s.module program_module ≡ false = ap (λ m. bytes_eq m program_module) (sym c.bytes-module.ensures) ∙ sym c.is_same.ensures ∙ c.if-is_same.false in
    let more = local_more c.args.symbols.now c.loop-symbol.symbol-index s c.loop-symbol-test.true c.symbol-item.is c.loop-symbol.source.now c.bytes-module.result.now c.bytes-module.ensures other in
    room _ _ now c.args.self.now.strings.items _ (ap (λ es. now ++ names_of es) (sym more) ∙ c.loop-symbol.invariant.strings) c.requires.room

pub loop-symbol-preserved : goal.loop-symbol-preserved
loop-symbol-preserved c =
    let s = c.symbol-item.result in
    let source = c.loop-symbol.source.now in
    let names = c.loop-symbol.self.strings.items in
    let entries = c.loop-symbol.self.symbols.items in
    let xs = entries_after source s in
    let rest = local_entries c.bytes-module.result.now (filter (λ t. not (is_of_program t)) (drop (c.loop-symbol.symbol-index + 1) c.args.symbols.now)) in
    let other : bytes_eq s.module program_module ≡ false = ap (λ m. bytes_eq m program_module) (sym c.bytes-module.ensures) ∙ sym c.is_same.ensures ∙ c.if-is_same.false in
    let more : local_entries source (filter (λ t. not (is_of_program t)) (drop c.loop-symbol.symbol-index c.args.symbols.now)) ≡ xs ++ rest =
    local_more c.args.symbols.now c.loop-symbol.symbol-index s c.loop-symbol-test.true c.symbol-item.is source c.bytes-module.result.now c.bytes-module.ensures other in
    let said = c.in_ok-push_behind.ensures in
    record {
      symbols = step_symbols rest xs names _ entries _ _ said.strings said.symbols (ap (λ es. entries ++ entries_bytes (length names) es) (sym more) ∙ c.loop-symbol.invariant.symbols);
      strings = step_strings rest xs names _ _ said.strings (ap (λ es. names ++ names_of es) (sym more) ∙ c.loop-symbol.invariant.strings);
      locals = omega (arith, said.locals, ap length more, length-append xs rest, c.loop-symbol.invariant.locals);
      counted = omega (arith, said.locals, ap length said.strings, length-append names (names_of xs), counted xs, c.loop-symbol.invariant.counted);
    }
