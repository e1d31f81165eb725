use Rattle.std.proofs.Common.{◌≡◌, ◌-◌, ◌+◌, ◌/◌, length, suc, ◌∙◌, arith}
use Rattle.std.proofs.lemmas.Grind.{common_steps}
use Rattle.code_store.proofs.Beginnings.{word_step}
use Rattle.block_count.proofs.text.words.Goals as goal

pub loop-preserved : goal.loop-preserved
loop-preserved c =
    let left = length c.args.text.now / 4 in
    let k : left - c.loop.counter ≡ suc (left - (c.loop.counter + 1)) = omega arith in
    record {
      left = grind (arith, common_steps);
      same = word_step (left - c.loop.counter) (left - (c.loop.counter + 1)) c.split_word-word.result.0 c.loop.words.items c.push.new.self.items c.loop.rest.now c.split_word-word.result.1.now k c.split_word-word.ensures.word c.split_word-word.ensures.rest c.in_ok-push.ensures.items ∙ c.loop.invariant.same;
    }
