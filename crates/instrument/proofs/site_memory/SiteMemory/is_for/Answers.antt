use Rattle.std.proofs.Common.{arith}
use Rattle.instrument.proofs.Grown.{item_in}
use Rattle.instrument.proofs.site_memory.SiteMemory.is_for.Goals as goal

pub site_words-requires : goal.site_words-requires
site_words-requires c = c.requires _ (item_in c.args.sites.now c.loop-place.place _ (omega (arith, c.loop-place-test.true)) c.index-sites-place.is)
