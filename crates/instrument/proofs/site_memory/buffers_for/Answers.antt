use Rattle.instrument.proofs.Grown.{item_in}
use Rattle.instrument.proofs.site_memory.buffers_for.Goals as goal

pub site_words-requires : goal.site_words-requires
site_words-requires c = c.requires _ (item_in c.args.sites.now c.loop-site.site-index _ c.loop-site-test.true c.site-item.is)
