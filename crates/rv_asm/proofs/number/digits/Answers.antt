use Rattle.std.proofs.Common.{◌∙◌, arith}
use Rattle.rv_asm.proofs.Sizes.{digit_step}
use Rattle.rv_asm.proofs.number.digits.Goals as goal

pub loop-byte-preserved : goal.loop-byte-preserved
loop-byte-preserved c = record {
  small = omega arith;
  rest = rw c.min-size.ensures
      (digit_step c.args.base c.loop-byte.size c.args.text.now c.loop-byte.byte-index c.in_ok-digit.field-0 (omega arith) c.requires.low c.in_ok-digit.ensures
      ∙ c.loop-byte.invariant.rest);
}
