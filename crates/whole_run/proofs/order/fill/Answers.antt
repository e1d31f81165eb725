use Rattle.std.proofs.Common.{◌≡◌, ◌∙◌, ◌++◌, ◌∷◌, [], ap, sym}
use Rattle.std.specs.Prelude.{true}
use Rattle.machine.specs.Turns.{is_runnable}
use Rattle.session_spec.specs.States.{State}
use Rattle.whole_run.proofs.Ordered.{going, may_go, ready_more, ready_past, stuck}
use Rattle.whole_run.proofs.order.fill.Goals.{then-runnable+in_ok-push, else-runnable}
use Rattle.whole_run.proofs.order.fill.Goals as goal

pub loop-number-preserved : goal.loop-number-preserved
loop-number-preserved c room =
    let s = c.args.session.now in
    let n = c.loop-number.number in
    let may = may_go s.inputs s.quanta in
    let old = c.loop-number.ready in
    elim c.if-runnable.branch [
      | then-runnable+in_ok-push w ↦
          let runs : may n ≡ true = ap (λ (x : State). is_runnable x.kept.machine.core n) (sym (going s c.requires.going)) ∙ c.runnable.ensures.open w.if-runnable.true in
          w.ready-is ∙ ready_more may n old w.push.new.self (c.loop-number.invariant room) runs (w.in_ok-push.ensures.pushed ∙ ap (λ m. old ++ m ∷ []) w.numbered.ensures)
      | else-runnable w ↦
          w.ready-is ∙ ready_past may n old (c.loop-number.invariant room) (stuck s.inputs s.quanta n room (c.runnable.ensures.halted c.requires.going w.if-runnable.false))
    ]
