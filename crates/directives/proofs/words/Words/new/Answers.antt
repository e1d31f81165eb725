use Rattle.directives.proofs.InView.{new_stands}
use Rattle.directives.proofs.words.Words.new.Goals as goal

pub invariant_of-result : goal.invariant_of-result
invariant_of-result c = new_stands c.args.text.now c.next_token-token.result c.next_token-token.new.scanner c.new-scanner.result.tokens
    c.next_token-token.ensures.tokens c.new-scanner.ensures.spans c.next_token-token.ensures.ended
