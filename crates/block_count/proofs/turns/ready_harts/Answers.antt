use Rattle.std.proofs.Common.{◌∙◌, ◌++◌, ◌∷◌, [], ap, sym}
use Rattle.machine.specs.Turns.{is_runnable}
use Rattle.block_count.proofs.ReadyHarts.{ready_more, ready_past}
use Rattle.block_count.proofs.turns.ready_harts.Goals.{then-runnable+in_ok-push, else-runnable}
use Rattle.block_count.proofs.turns.ready_harts.Goals as goal

pub loop-number-preserved : goal.loop-number-preserved
loop-number-preserved c =
    let may = is_runnable c.args.machine.now.core in
    let n = c.loop-number.number in
    let old = c.loop-number.ready in
    let here = ap may (sym c.numbered-hart.ensures) ∙ sym c.runnable.ensures in
    elim c.if-runnable.branch [
      | then-runnable+in_ok-push w ↦ w.ready-is ∙ ready_more may n old w.push.new.self c.loop-number.invariant (here ∙ w.if-runnable.true) (w.in_ok-push.ensures.pushed ∙ ap (λ m. old ++ m ∷ []) c.numbered-hart.ensures)
      | else-runnable w ↦ w.ready-is ∙ ready_past may n old c.loop-number.invariant (here ∙ w.if-runnable.false)
    ]
