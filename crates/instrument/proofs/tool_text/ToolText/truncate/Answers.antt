use Rattle.std.proofs.Common.{◌≤◌, List, subst}
use Rattle.instrument.specs.Spaces.{AreRoomsOf}
use Rattle.instrument.specs.ToolTexts.{ToolTextData, text_data}
use Rattle.instrument.specs.declared.room.Room.{Room}
use Rattle.instrument.proofs.Grown.{text_cut, entries_cut}
use Rattle.instrument.proofs.tool_text.ToolText.truncate.Goals as goal

pub invariant_of-self : goal.invariant_of-self
invariant_of-self c =
    let given = subst (λ (rooms : List Room). AreRoomsOf c.self.inside.program c.truncate.new.words rooms) c.truncate.ensures.rooms (c.truncate.ensures.tied c.self.inside.program c.self.invariant.rooms) in
    text_cut c.self.inside.program c.self.inside.ledger c.truncate.new.self c.self.inside.words c.truncate.new.words c.args.rooms c.self.invariant given c.truncate.ensures.rooms c.truncate.ensures.entries

pub returns-clause-entries : goal.returns-clause-entries
returns-clause-entries c =
    let m = text_data c.self.inside.program c.truncate.new.self c.truncate.new.words in
    subst (λ (d : ToolTextData). d.entries ≤ m.entries) c.self.view_is (entries_cut c.self.inside.ledger c.truncate.new.self c.args.rooms c.truncate.ensures.rooms c.truncate.ensures.entries)
