use Rattle.instrument.proofs.Texts.{text_dropped}
use Rattle.instrument.proofs.tool_text.ToolText.drop_sites.Goals as goal

pub invariant_of-self : goal.invariant_of-self
invariant_of-self c = text_dropped c.args.owner c.self.inside.program c.self.inside.ledger c.drop_sites.new.self c.self.inside.words c.self.invariant c.drop_sites.ensures.book c.drop_sites.ensures.entries
