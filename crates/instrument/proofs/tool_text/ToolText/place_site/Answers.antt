use Rattle.std.proofs.Common.{◌≤◌, ◌+◌, subst, sym}
use Rattle.instrument.specs.ToolTexts.{ToolTextData, text_data}
use Rattle.instrument.proofs.Grown.{text_placed}
use Rattle.instrument.proofs.tool_text.ToolText.place_site.Goals as goal

pub invariant_of-self : goal.invariant_of-self
invariant_of-self c =
    (text_placed c.self.inside.program c.self.inside.ledger c.place_site.new.ledger c.self.inside.words c.place_site.new.words c.args.owner c.args.slots.now c.args.site.now c.place_site.result c.self.invariant c.place_site.ensures.tied c.place_site.ensures.ok c.place_site.ensures.unchanged
    (subst (λ (d : ToolTextData). 7 ≤ d.entries) (sym c.self.view_is) c.requires.entries) c.place_site.ensures.entries_left).0

pub returns-clause-entries_left : goal.returns-clause-entries_left
returns-clause-entries_left c =
    let m = text_data c.self.inside.program c.place_site.new.ledger c.place_site.new.words in
    subst (λ (d : ToolTextData). d.entries ≤ m.entries + 7) c.self.view_is
    (text_placed c.self.inside.program c.self.inside.ledger c.place_site.new.ledger c.self.inside.words c.place_site.new.words c.args.owner c.args.slots.now c.args.site.now c.place_site.result c.self.invariant c.place_site.ensures.tied c.place_site.ensures.ok c.place_site.ensures.unchanged
    (subst (λ (d : ToolTextData). 7 ≤ d.entries) (sym c.self.view_is) c.requires.entries) c.place_site.ensures.entries_left).1
