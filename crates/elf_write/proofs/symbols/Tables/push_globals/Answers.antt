use Rattle.elf_write.proofs.Entries.{fits}
use Rattle.elf_write.proofs.symbols.Tables.push_globals.Goals as goal

pub push-requires : goal.push-requires
push-requires c = fits c.loop-symbol.self.strings.items _ c.args.self.now.strings.items _ c.loop-symbol.invariant.strings c.requires
