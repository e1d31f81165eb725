use Rattle.std.proofs.Common.{◌≡◌, ◌∙◌, ap, sym}
use Rattle.std.specs.Prelude.{true}
use Rattle.machine.specs.Turns.{is_runnable}
use Rattle.session_spec.specs.States.{State}
use Rattle.whole_run.proofs.Ordered.{going, leaves_ready, may_go, stays_ready, stuck}
use Rattle.whole_run.proofs.order.refresh.Goals as goal

pub returns-then-not-runnable : goal.returns-then-not-runnable
returns-then-not-runnable c room =
    let s = c.args.session.now in
    let now = going s c.requires.going in
    let idle = ap (λ (x : State). x.kept.worked) (sym now) ∙ (sym c.worked.ensures ∙ c.if-worked.false) in
    let stops = ap (may_go s.inputs s.quanta) (sym c.get.ensures.number) ∙ stuck s.inputs s.quanta c.get.result room (c.runnable.ensures.halted c.requires.going c.if-not-runnable.true) in
    leaves_ready (may_go s.inputs s.quanta) c.args.hart c.args.harts c.args.ready.now c.remove.new.self (c.requires.others idle) stops c.remove.ensures

pub returns-else-not-runnable : goal.returns-else-not-runnable
returns-else-not-runnable c room =
    let s = c.args.session.now in
    let now = going s c.requires.going in
    let idle = ap (λ (x : State). x.kept.worked) (sym now) ∙ (sym c.worked.ensures ∙ c.if-worked.false) in
    let goes : may_go s.inputs s.quanta c.args.hart ≡ true =
    ap (may_go s.inputs s.quanta) (sym c.get.ensures.number) ∙ (ap (λ (x : State). is_runnable x.kept.machine.core c.get.result) (sym now) ∙ c.runnable.ensures.open c.if-not-runnable.false) in
    stays_ready (may_go s.inputs s.quanta) c.args.hart c.args.harts c.args.ready.now (c.requires.others idle) goes
