use Rattle.std.proofs.Common.{◌≡◌, ◌+◌, ◌-◌, ◌/◌, length, arith, sym, ap, ◌∙◌}
use Rattle.std.proofs.lemmas.Grind.{common_steps}
use Rattle.rv_word.specs.Names.{scratch_in, has_scratch, words_in}
use Rattle.rv_word.proofs.Scratch.{hit, miss}
use Rattle.rv_word.proofs.names.first_scratch.Goals as goal

pub returns-then-names_x31 : goal.returns-then-names_x31
returns-then-names_x31 c =
    let n = length c.args.text.now / 4 - c.loop.counter in
    let e = ap has_scratch (sym c.split_word-word.ensures.word) ∙ (sym c.names_x31.ensures ∙ c.if-names_x31.true) in
    sym (hit n (n - 1) c.loop.place c.loop.rest.now (omega arith) e) ∙ c.loop.invariant.same

pub loop-preserved : goal.loop-preserved
loop-preserved c =
    let n = length c.args.text.now / 4 - c.loop.counter in
    let e = ap has_scratch (sym c.split_word-word.ensures.word) ∙ (sym c.names_x31.ensures ∙ c.if-names_x31.false) in
    let m = miss n (n - 1) c.loop.place c.loop.rest.now (omega arith) e in
    let k : length c.args.text.now / 4 - (c.loop.counter + 1) ≡ n - 1 = omega arith in
    record {
      left = grind (arith, common_steps);
      place = omega arith;
      same = ap (λ j. scratch_in (words_in j c.split_word-word.result.1.now) (c.loop.place + 4)) k ∙ (ap (λ r. scratch_in (words_in (n - 1) r) (c.loop.place + 4)) c.split_word-word.ensures.rest ∙ (sym m ∙ c.loop.invariant.same));
    }
