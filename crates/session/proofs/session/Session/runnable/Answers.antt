use Rattle.std.proofs.Common.{◌≡◌, ◌∙◌, ap, sym, subst, length, arith}
use Rattle.std.specs.Prelude.{drop, false}
use Rattle.machine.specs.Turns.{is_runnable}
use Rattle.session.specs.Sessions.{SessionData}
use Rattle.session_spec.specs.Work.{Halted}
use Rattle.session.proofs.Halting.{full, stuck}
use Rattle.session.proofs.session.Session.runnable.Goals as goal

pub returns-then-len-clause-halted : goal.returns-then-len-clause-halted
returns-then-len-clause-halted c going stops =
    let s = c.self.inside in
    let still : is_runnable s.stored.machine.state.core c.args.hart ≡ false = ap (is_runnable s.stored.machine.state.core) (sym c.numbered.ensures) ∙ (sym c.runnable.ensures ∙ stops) in
    subst (λ (x : SessionData). Halted x.inputs x.quanta c.args.hart) c.self.view_is
    (stuck s.inputs s.quanta.items s.closed (drop s.looked s.wishes.items) s.stored c.args.hart c.self.invariant.0 (ap (λ (x : SessionData). x.closed) c.self.view_is ∙ going) still)

pub returns-else-len-clause-halted : goal.returns-else-len-clause-halted
returns-else-len-clause-halted c going full_now =
    let many = c.if-len.false in
    let len = c.len.ensures in
    let view = ap (λ (x : SessionData). length x.quanta) c.self.view_is in
    full c.args.self.now.inputs c.args.self.now.quanta c.args.self.now.closed c.args.hart (omega arith)
