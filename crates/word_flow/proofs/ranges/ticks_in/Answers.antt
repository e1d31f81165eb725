use Rattle.std.proofs.Common.{arith}
use Rattle.std.proofs.lemmas.Grind.{common_steps}
use Rattle.rv_word.specs.Memory.{in_range}
use Rattle.word_flow.proofs.Bounds.{sum_at-le-sum}
use Rattle.word_flow.proofs.ranges.ticks_in.Goals as goal

pub loop-place-init : goal.loop-place-init
loop-place-init c =
    let f = sum_at-le-sum (in_range c.args.start c.args.len) c.args.numbers.now c.args.at in
    record { few = omega arith; all = grind (arith, common_steps) }
