use Rattle.std.proofs.Common.{List, [], ◌∷◌, ◌++◌, ap, ap₂, sym, ◌∙◌}
use Rattle.report.specs.declared.parts.ShownPart.{ShownPart}
use Rattle.session.proofs.Reported.{pair_shown, pair_tests}
use Rattle.session.proofs.parts.shown_parts.Goals as goal
use Rattle.session.proofs.parts.shown_parts.Goals.{in-Some+in_ok-shown_part+in_ok-push, in_default}

pub loop-pair-preserved : goal.loop-pair-preserved
loop-pair-preserved c =
    let i = c.args.inputs.now in
    let n = c.loop-pair.pair-index in
    let all = c.args.pairs.now in
    let k = c.pair-item.result in
    elim c.match-pair.branch [
      | in-Some+in_ok-shown_part+in_ok-push w ↦
          ap (λ v. v.items) w.parts-is
          ∙ (w.in_ok-push.ensures.items
          ∙ (ap₂ (λ (ps : List ShownPart) (p : ShownPart). ps ++ p ∷ []) c.loop-pair.invariant w.in_ok-shown_part.ensures
          ∙ sym (pair_shown i n all k c.loop-pair-test.true c.pair-item.is w.in-Some.hist w.in-Some.is)))
      | in_default w ↦ ap (λ v. v.items) w.parts-is ∙ (c.loop-pair.invariant ∙ sym (pair_tests i n all k c.loop-pair-test.true c.pair-item.is w.in_default.is))
    ]
