use Rattle.std.proofs.Common.{◌≡◌, ◌*◌, ◌+◌, ◌≤◌, drop, map}
use Rattle.prim_code.specs.Counts.{site_words}
use Rattle.instrument.specs.Admission.{with_sites}
use Rattle.instrument.specs.ToolTexts.{IsGrown}
use Rattle.instrument.proofs.tool_text.ToolText.place_each.Given as goal

abbrev pub invariant-loop-site : goal.invariant-loop-site
invariant-loop-site l = record {
  book : with_sites l.initial.self.program l.owner l.slots (drop l.site-index l.sites) l.self.book ≡ with_sites l.initial.self.program l.owner l.slots l.sites l.initial.self.book;
  program : l.self.program ≡ l.initial.self.program;
  grown : IsGrown l.initial.self.book l.self.book;
  buffers : l.buffers.items ≡ map site_words (drop l.site-index l.sites);
  rooms : l.initial.self.spare_rooms ≤ l.self.spare_rooms + 2 * l.site-index;
  takes : l.initial.self.takes ≤ l.self.takes + 2 * l.site-index;
  entries : l.initial.self.entries ≤ l.self.entries + 7 * l.site-index;
}
