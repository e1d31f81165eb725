use Rattle.std.proofs.Common.{◌≡◌, ◌∙◌, ap, arith, subst}
use Rattle.std.specs.Prelude.{drop, false, true}
use Rattle.instrumented.specs.Instrumented.{Instrumented}
use Rattle.session_spec.specs.States.{SessionState}
use Rattle.session.specs.Kept.{IsTableAfter}
use Rattle.session.specs.Sessions.{SessionData, session_at}
use Rattle.session.proofs.Halting.{can_sample}
use Rattle.session.proofs.Quanta.{end_kept}
use Rattle.session.proofs.session.Session.close.Goals as goal

pub end-requires-clause-time : goal.end-requires-clause-time
end-requires-clause-time c =
    let going : c.self.inside.closed ≡ false = ap (λ (x : SessionData). x.closed) c.self.view_is ∙ c.requires in
    let time = c.self.invariant.0.sooner going in
    let few = c.self.invariant.0.allowed.few in
    omega arith

pub end-requires-clause-idle : goal.end-requires-clause-idle
end-requires-clause-idle c =
    let going : c.self.inside.closed ≡ false = ap (λ (x : SessionData). x.closed) c.self.view_is ∙ c.requires in
    let idle = c.self.invariant.0.idle going in
    let few = c.self.invariant.0.allowed.few in
    omega arith

pub end-requires-clause-sampled : goal.end-requires-clause-sampled
end-requires-clause-sampled c =
    let s = c.self.inside in
    let k = c.self.invariant.0 in
    let going : s.closed ≡ false = ap (λ (x : SessionData). x.closed) c.self.view_is ∙ c.requires in
    let few = k.allowed.few in
    let samples = k.fewer going in
    can_sample s.inputs s.quanta.items s.closed (drop s.looked s.wishes.items) s.stored k (omega arith) few

pub invariant_of-self : goal.invariant_of-self
invariant_of-self c =
    let s = c.self.inside in
    let later = drop s.looked s.wishes.items in
    let going : s.closed ≡ false = ap (λ (x : SessionData). x.closed) c.self.view_is ∙ c.requires in
    let kept : IsTableAfter s.inputs s.quanta.items false later s.stored = subst (λ b. IsTableAfter s.inputs s.quanta.items b later s.stored) going c.self.invariant.0 in
    let e = c.end.ensures in
    (end_kept s.inputs s.quanta.items later s.stored c.end.new.self kept e.table e.quiet e.harts e.later e.live, c.self.invariant.1, c.self.invariant.2)

pub returns : goal.returns
returns c =
    let s = c.self.inside in
    let d = c.args.self.now in
    let later = drop s.looked s.wishes.items in
    let going : s.closed ≡ false = ap (λ (x : SessionData). x.closed) c.self.view_is ∙ c.requires in
    let kept : IsTableAfter s.inputs s.quanta.items false later s.stored = subst (λ b. IsTableAfter s.inputs s.quanta.items b later s.stored) going c.self.invariant.0 in
    let e = c.end.ensures in
    let over = end_kept s.inputs s.quanta.items later s.stored c.end.new.self kept e.table e.quiet e.harts e.later e.live in
    ap (λ (m : Instrumented). record { inputs = s.inputs; machine = m; quanta = s.quanta.items; closed = true }) (ap (λ (k : SessionState). k.machine) over.state.kept)
    ∙ ap (λ (x : SessionData). session_at x.inputs x.quanta true) c.self.view_is
