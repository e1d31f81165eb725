use Rattle.std.proofs.Common.{◌∙◌, sym}
use Rattle.pn_text.proofs.Growing.{none_at}
use Rattle.pn_text.proofs.lexeme.digits_value.Goals as goal

pub returns-then-value-gt-MOST : goal.returns-then-value-gt-MOST
returns-then-value-gt-MOST c =
    sym (none_at 2147483647 c.loop-byte.value c.args.digits.now c.loop-byte.byte-index c.loop-byte-test.true c.if-byte-lt48.false c.if-byte-gt57.false c.if-value-gt-MOST.true)
    ∙ c.loop-byte.invariant.rest
