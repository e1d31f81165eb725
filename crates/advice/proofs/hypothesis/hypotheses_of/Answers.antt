use Rattle.std.proofs.Common.{◌≡◌, ◌++◌, ◌∷◌, [], List, ℕ, ap, sym, ◌∙◌, is_some}
use Rattle.first_places.specs.Places.{first_place}
use Rattle.advice.specs.Advice.{hypotheses_of, threshold_of}
use Rattle.advice.proofs.Mentioned.{known, new_one}
use Rattle.advice.proofs.hypothesis.hypotheses_of.Goals as goal
use Rattle.advice.proofs.hypothesis.hypotheses_of.Goals.{then-not-before+in_ok-hypothesis_of+in_ok-push, else-not-before}

pub loop-verdict-preserved : goal.loop-verdict-preserved
loop-verdict-preserved c =
    let vs = c.args.verdicts.now in
    let i = c.loop-verdict.verdict-index in
    let v = c.verdict-item.result in
    let m = c.loop-verdict.mentioned in
    let hs = c.loop-verdict.hypotheses.items in
    let pushed : c.push.new.self ≡ m ++ v.hypothesis ∷ [] = c.in_ok-before.ensures.pushed ∙ ap (λ (n : List ℕ). m ++ n ∷ []) c.bytes.ensures in
    let before : c.in_ok-before.before ≡ is_some (first_place v.hypothesis m) = c.in_ok-before.ensures.before ∙ ap (λ (n : List ℕ). is_some (first_place n m)) c.bytes.ensures in
    elim c.if-not-before.branch [
      | then-not-before+in_ok-hypothesis_of+in_ok-push w ↦
          let threshold : w.in_ok-hypothesis_of.field-0.threshold ≡ threshold_of vs v.hypothesis = w.in_ok-hypothesis_of.ensures.threshold ∙ c.in_ok-thresholds.ensures v.hypothesis in
          let last = new_one vs i v m c.push.new.self hs (hypotheses_of vs) c.loop-verdict-test.true c.verdict-item.is pushed c.loop-verdict.invariant
          (sym before ∙ w.if-not-before.true) w.in_ok-hypothesis_of.field-0 w.in_ok-hypothesis_of.ensures.name threshold in
          rw (w.hypotheses-is, w.in_ok-push.ensures.items) last
      | else-not-before w ↦
          rw w.hypotheses-is
          (known vs i v m c.push.new.self hs (hypotheses_of vs) c.loop-verdict-test.true c.verdict-item.is pushed c.loop-verdict.invariant (sym before ∙ w.if-not-before.false))
    ]
