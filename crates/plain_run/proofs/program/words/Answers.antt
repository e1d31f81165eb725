use Rattle.std.proofs.Common.{◌≡◌, ◌-◌, ◌+◌, ◌/◌, length, suc, ◌∙◌, arith}
use Rattle.std.proofs.lemmas.Grind.{common_steps}
use Rattle.plain_run.proofs.Programs.{word_step}
use Rattle.plain_run.proofs.program.words.Goals as goal

pub loop-preserved : goal.loop-preserved
loop-preserved c =
    let n = length c.args.text.now / 4 - c.loop.counter in
    let k : n ≡ suc (length c.args.text.now / 4 - (c.loop.counter + 1)) = omega arith in
    record {
      left = grind (arith, common_steps);
      same = word_step n (length c.args.text.now / 4 - (c.loop.counter + 1)) c.new.result c.loop.words.items c.push.new.self.items c.loop.rest.now c.split_word-word.result.1.now k (c.new.ensures ∙ c.split_word-word.ensures.word) c.split_word-word.ensures.rest c.in_ok-push.ensures.items ∙ c.loop.invariant.same;
    }
