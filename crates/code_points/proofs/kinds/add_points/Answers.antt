use Rattle.std.proofs.Common.{◌≡◌, ℕ, ◌+◌, ◌-◌, ◌*◌, ◌/◌, ◌++◌, ◌∷◌, [], suc, sym, ap, ◌∙◌, arith}
use Rattle.rv_word.specs.Plain.{words_from}
use Rattle.code_points.specs.Points.{point_at, has_kind}
use Rattle.code_points.proofs.Steps.{point_step, plain_step}
use Rattle.code_points.proofs.kinds.add_points.Goals as goal
use Rattle.code_points.proofs.kinds.add_points.Goals.{then-has_kind+in_ok-push, else-has_kind}

pub loop-number-preserved : goal.loop-number-preserved
loop-number-preserved c =
    let p = c.args.proc.now in
    let k = c.loop-number.number in
    let done = c.loop-number.points.items in
    let f = point_at (words_from c.args.text_at c.args.text.now) c.args.proc_no p in
    let place = λ (j : ℕ). p.start + 4 * j in
    let e : p.len / 4 - k ≡ suc (p.len / 4 - (k + 1)) = omega arith in
    elim c.if-has_kind.branch [
      | then-has_kind+in_ok-push w ↦
          point_step has_kind f place done c.if-has_kind.points.items k _ _ e (ap has_kind (sym c.point_at-point.ensures) ∙ (sym c.has_kind.ensures ∙ w.if-has_kind.true)) (ap (λ v. v.items) w.points-is ∙ (w.in_ok-push.ensures.items ∙ ap (λ q. done ++ q ∷ []) c.point_at-point.ensures)) ∙ c.loop-number.invariant
      | else-has_kind w ↦
          plain_step has_kind f place done c.if-has_kind.points.items k _ _ e (ap has_kind (sym c.point_at-point.ensures) ∙ (sym c.has_kind.ensures ∙ w.if-has_kind.false)) (ap (λ v. v.items) w.points-is) ∙ c.loop-number.invariant
    ]
