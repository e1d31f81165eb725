use Rattle.std.proofs.Common.{◌∙◌, ap}
use Rattle.directives.specs.Ahead.{ahead_after}
use Rattle.directives.proofs.InView.{advanced_stands, advanced_view}
use Rattle.directives.proofs.words.Words.advance.Goals as goal

pub invariant_of-self : goal.invariant_of-self
invariant_of-self c = advanced_stands c.self.inside.text.now c.self.inside.token c.next_token-self-inside.result c.self.inside.scanner c.next_token-self-inside.new.scanner
    c.self.invariant c.next_token-self-inside.ensures.tokens c.next_token-self-inside.ensures.ended

pub returns : goal.returns
returns c = advanced_view c.self.inside.text.now c.self.inside.token c.next_token-self-inside.result c.self.inside.scanner c.next_token-self-inside.new.scanner
    c.self.invariant c.next_token-self-inside.ensures.tokens c.next_token-self-inside.ensures.ending ∙ ap ahead_after c.self.view_is
