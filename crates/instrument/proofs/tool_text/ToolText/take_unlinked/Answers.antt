use Rattle.std.proofs.Common.{◌≤◌, subst}
use Rattle.instrument.specs.ToolTexts.{ToolTextData, text_data}
use Rattle.instrument.proofs.Texts.{entries_taken, may_go, text_taken}
use Rattle.instrument.proofs.tool_text.ToolText.take_unlinked.Goals as goal

pub give-requires-clause-some : goal.give-requires-clause-some
give-requires-clause-some c = (may_go c.self.inside.program c.self.inside.words c.args.point c.in_ok-room.room _ _ c.self.invariant.rooms c.in_ok-room.ensures.taken).0

pub give-requires-clause-reserved : goal.give-requires-clause-reserved
give-requires-clause-reserved c = (may_go c.self.inside.program c.self.inside.words c.args.point c.in_ok-room.room _ _ c.self.invariant.rooms c.in_ok-room.ensures.taken).1

pub give-requires-clause-taken : goal.give-requires-clause-taken
give-requires-clause-taken c = (may_go c.self.inside.program c.self.inside.words c.args.point c.in_ok-room.room _ _ c.self.invariant.rooms c.in_ok-room.ensures.taken).2

pub invariant_of-self-2 : goal.invariant_of-self-2
invariant_of-self-2 c =
    text_taken c.self.inside.program c.self.inside.ledger c.take_unlinked.new.self c.self.inside.words c.give.new.self c.args.point c.in_ok-room.room c.self.invariant c.in_ok-room.ensures.taken c.give.ensures c.take_unlinked.ensures.entries

pub returns-clause-entries : goal.returns-clause-entries
returns-clause-entries c =
    let m = text_data c.self.inside.program c.take_unlinked.new.self c.give.new.self in
    subst (λ (d : ToolTextData). d.entries ≤ m.entries) c.self.view_is (entries_taken c.self.inside.ledger c.take_unlinked.new.self c.args.point c.in_ok-room.room c.in_ok-room.ensures.taken c.take_unlinked.ensures.entries)
