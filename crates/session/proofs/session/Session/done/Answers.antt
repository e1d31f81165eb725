use Rattle.std.proofs.Common.{◌<◌, ◌∙◌, ap, subst}
use Rattle.session.specs.Sessions.{SessionData}
use Rattle.session.proofs.Halting.{not_halted}
use Rattle.session.proofs.session.Session.done.Goals as goal

pub returns-then-runnable-clause-open : goal.returns-then-runnable-clause-open
returns-then-runnable-clause-open c _ =
    let harts = ap (λ x. x.inputs.settings.harts) c.self-inside.view_is ∙ ap (λ (x : SessionData). x.inputs.settings.harts) c.self.view_is in (
      c.loop-hart.hart,
      subst (λ n. c.loop-hart.hart < n) harts c.loop-hart-test.true,
      not_halted c.args.self.now.inputs c.args.self.now.quanta c.args.self.now.closed c.loop-hart.hart c.requires (c.runnable.ensures.open c.if-runnable.true) (c.runnable.ensures.few c.if-runnable.true),
    )
