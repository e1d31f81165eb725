use Rattle.std.proofs.Common.{refl, ◌∙◌, ◌≡◌, List, ap, subst, arith, drop, map}
use Rattle.std.specs.Prelude.{Ok}
use Rattle.pn_types.specs.declared.plan.Site.{Site}
use Rattle.prim_code.specs.Counts.{site_words}
use Rattle.rv_word.specs.Plain.{Words}
use Rattle.instrument.specs.Admission.{with_site}
use Rattle.instrument.proofs.Grown.{grown_none, grown_site, item_in, each_next}
use Rattle.instrument.proofs.Holdings.{at_next}
use Rattle.instrument.proofs.tool_text.ToolText.place_each.Goals as goal

pub loop-site-init : goal.loop-site-init
loop-site-init c = record { book = refl; program = refl; grown = grown_none c.args.self.now.book; buffers = c.requires.buffers; rooms = omega arith; takes = omega arith; entries = omega arith }

pub place_site-requires-clause-named : goal.place_site-requires-clause-named
place_site-requires-clause-named c = c.requires.named c.site-item.result (item_in c.args.sites.now c.loop-site.site-index c.site-item.result c.loop-site-test.true c.site-item.is)

pub place_site-requires-clause-count : goal.place_site-requires-clause-count
place_site-requires-clause-count c = c.requires.count c.site-item.result (item_in c.args.sites.now c.loop-site.site-index c.site-item.result c.loop-site-test.true c.site-item.is)

pub loop-site-preserved : goal.loop-site-preserved
loop-site-preserved c =
    let i = c.loop-site.invariant in
    let ok = subst (λ (t : Words). with_site t c.args.owner c.args.slots.now c.site-item.result c.loop-site.self.book ≡ Ok c.place_site.new.self.book) i.program c.in_ok-place_site.ensures.ok in
    let e = c.in_ok-place_site.ensures in
    record {
      book = each_next c.args.self.now.program c.args.owner c.args.slots.now c.args.sites.now c.loop-site.site-index c.site-item.result c.loop-site.self.book c.place_site.new.self.book c.loop-site-test.true c.site-item.is ok ∙ i.book;
      program = e.program ∙ i.program;
      grown = grown_site c.args.self.now.program c.args.owner c.args.slots.now c.site-item.result c.args.self.now.book c.loop-site.self.book c.place_site.new.self.book i.grown ok;
      buffers = c.pop_front.ensures.rest ∙ (ap (drop 1) i.buffers ∙ ap (λ (ss : List Site). drop 1 (map site_words ss)) (at_next c.args.sites.now c.loop-site.site-index c.site-item.result c.loop-site-test.true c.site-item.is).1);
      rooms = omega (arith, i.rooms, e.rooms_left);
      takes = omega (arith, i.takes, e.takes_left);
      entries = omega (arith, i.entries, e.entries_left);
    }
