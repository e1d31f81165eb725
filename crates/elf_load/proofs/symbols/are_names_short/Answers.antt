use Rattle.std.proofs.Common.{length, get_or, ap, sym, ◌∙◌, is_some}
use Rattle.elf_load.proofs.NameLengths.{counted, too_long, short_enough}
use Rattle.elf_form.specs.declared.symbol.SymbolEntry.{SymbolEntry}
use Rattle.elf_load.proofs.symbols.are_names_short.Goals as goal

abbrev none : SymbolEntry
none = record { name = 0; info = 0; section = 0; value = 0; size = 0 }

pub returns-then-room-len : goal.returns-then-room-len
returns-then-room-len c =
    let e = get_or c.args.entries.now c.loop-entry.entry-index none in
    let len = counted c.args.strings.now e (sym c.is_file.ensures ∙ c.if-is_file.false) (sym (ap is_some c.kind.ensures) ∙ c.if-is_none.ensures) in
    too_long c.args.strings.now c.args.entries.now c.loop-entry.entry-index c.loop-entry.room _ 67108864 none c.loop-entry-test.true c.loop-entry.invariant
    (len ∙ sym (ap (λ b. length b) c.name_at.ensures)) c.if-room-len.true

pub returns : goal.returns
returns c = short_enough c.args.strings.now c.args.entries.now c.loop-entry.entry-index c.loop-entry.room 67108864 c.loop-entry-test.false c.loop-entry.invariant
