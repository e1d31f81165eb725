use Rattle.std.proofs.Common.{◌<◌, ◌≤◌, subst}
use Rattle.std.specs.Prelude.{IfSome}
use Rattle.instrument.specs.ToolTexts.{ToolTextData, text_data}
use Rattle.instrument.proofs.Texts.{text_behind, entries_behind, entry_freed}
use Rattle.instrument.proofs.tool_text.ToolText.hand_out.Goals as goal

pub invariant_of-self : goal.invariant_of-self
invariant_of-self c = text_behind c.self.inside.program c.self.inside.ledger c.hand_out.new.self c.self.inside.words c.self.invariant c.hand_out.ensures.book c.hand_out.ensures.entries

pub returns-clause-entries : goal.returns-clause-entries
returns-clause-entries c =
    let m = text_data c.self.inside.program c.hand_out.new.self c.self.inside.words in
    subst (λ (d : ToolTextData). d.entries ≤ m.entries) c.self.view_is
    (entries_behind c.self.inside.program c.self.inside.ledger c.hand_out.new.self c.self.inside.words c.self.invariant c.hand_out.ensures.book c.hand_out.ensures.entries)

pub returns-clause-freed : goal.returns-clause-freed
returns-clause-freed c =
    let m = text_data c.self.inside.program c.hand_out.new.self c.self.inside.words in
    subst (λ (d : ToolTextData). IfSome c.hand_out.result (λ e. d.entries < m.entries)) c.self.view_is
    (entry_freed c.self.inside.program c.self.inside.ledger c.hand_out.new.self c.self.inside.words c.self.invariant c.hand_out.ensures.book c.hand_out.ensures.entries c.hand_out.result c.hand_out.ensures.entry)
