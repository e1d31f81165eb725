use Rattle.std.proofs.Common.{◌/◌}
use Rattle.elf_form.specs.Fields.{symbol_entry_of}
use Rattle.elf_load.proofs.TableLemmas.{table_more}
use Rattle.elf_load.proofs.tables.symbol_entries.Goals as goal

pub loop-i-preserved : goal.loop-i-preserved
loop-i-preserved c =
    table_more symbol_entry_of 24 c.args.bytes.now (c.args.symbols.now.size / 24) c.loop-i.i c.args.symbols.now.offset c.loop-i.entries.items _ _ _ c.in_ok-push.ensures.items c.symbol_entry_at.ensures c.loop-i-test.true c.loop-i.invariant
