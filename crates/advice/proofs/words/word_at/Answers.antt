use Rattle.std.proofs.Common.{◌≡◌, ℕ, drop, ap, ◌∙◌, arith}
use Rattle.advice.specs.Words.{words}
use Rattle.advice.proofs.Passing.{passed, found, not_found}
use Rattle.advice.proofs.words.word_at.Goals as goal

pub loop-preserved : goal.loop-preserved
loop-preserved c = passed (words c.args.line.now) c.loop.counter c.loop.words c.next.new.self c.next.result c.next.ensures c.loop.invariant

pub returns-in-Some : goal.returns-in-Some
returns-in-Some c =
    let same : c.loop.counter ≡ c.args.place = omega arith in
    found (words c.args.line.now) c.args.place c.loop.words c.next-2.new.self c.in-Some.word.now
    (c.loop.invariant ∙ ap (λ (i : ℕ). drop i (words c.args.line.now)) same) c.in-Some.ensures

pub returns-in-None : goal.returns-in-None
returns-in-None c =
    let same : c.loop.counter ≡ c.args.place = omega arith in
    not_found (words c.args.line.now) c.args.place c.loop.words
    (c.loop.invariant ∙ ap (λ (i : ℕ). drop i (words c.args.line.now)) same) c.in-None.ensures.0
