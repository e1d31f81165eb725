use Rattle.std.proofs.Common.{◌≡◌, ◌+◌, ◌-◌, ◌≤◌, ℕ, List, [], ◌∷◌, ◌++◌, Option, Some, None, refl, sym, ap, ◌∙◌, subst, arith, inr, length}
use Rattle.mdl_plan.specs.declared.fault.PlanFault.{PlanFault}
use Rattle.instrumented.specs.Instrumented.{Instrumented}
use Rattle.session_pairs.specs.SampledPairs.{AreLive}
use Rattle.session_pairs.specs.declared.pair.SampledPair.{SampledPair}
use Rattle.session.specs.Outcomes.{IsFailed, IsAdmissionStep}
use Rattle.session.specs.Tables.{IsNew, StateTable}
use Rattle.session.specs.contracts.stored.StoredState.{the_view}
use Rattle.session.specs.declared.failure.Failure.TheVariants.{Refused}
use Rattle.session.proofs.Instrumented.{pair_new, live_more, refused_same, step_more, step_same}
use Rattle.session.proofs.stored.StoredState.instrument.Goals.{in-Some-2, in-None-2}
use Rattle.session.proofs.stored.StoredState.instrument.Goals as goal

no_fault : (o : Option PlanFault) → ((f : PlanFault) → o ≡ Some f → ⊥) → o ≡ None
no_fault None n = refl
no_fault (Some f) n = absurd (n f refl)

pub returns-in-Ok-clause-step : goal.returns-in-Ok-clause-step
returns-in-Ok-clause-step c =
    let i = c.args.inputs.now in
    let plan = c.args.plan.now in
    let s = c.self.inside in
    let e = c.in-Ok.ensures in
    let k = c.new_pair.result in
    let none = no_fault c.args.candidate.fault c.in_default.not-Some in
    let n : IsNew i k = subst (IsNew i) (sym c.new_pair.ensures) (pair_new i plan c.args.candidate c.in-Ok.number c.requires.candidate none) in
    let number : k.shown.instrument.n ≡ s.machine.state.placer.count = ap (λ (x : SampledPair). x.shown.instrument.n) c.new_pair.ensures ∙ e.number in
    let live = subst (λ (x : StateTable). AreLive x.machine.state.placer x.pairs x.live) (sym c.self.view_is) c.requires.live in
    let more = live_more s.machine.state c.admit.new.self.state plan c.args.limit s.pairs.all.items s.pairs.live.items k live e.ok number e.state in
    let places = c.put.ensures.live ∙ ap (λ (x : ℕ). s.pairs.live.items ++ x ∷ []) s.pairs.all.ok.0 in
    let room : s.room ≤ s.room - 1 + 1 = omega arith in
    step_more i plan k (the_view s) c.args.self.now _ c.self.view_is n c.put.ensures.all room e.ready
    (subst (λ (ls : List ℕ). AreLive c.admit.new.self.state.placer c.put.new.self.all.items ls) (sym places) (subst (λ (ks : List SampledPair). AreLive c.admit.new.self.state.placer ks (s.pairs.live.items ++ length s.pairs.all.items ∷ [])) (sym c.put.ensures.all) more)) refl e.core

pub returns-in-Err-clause-err : goal.returns-in-Err-clause-err
returns-in-Err-clause-err c =
    let plan = c.args.plan.now in
    let s = c.self.inside in
    let e = c.in-Err.ensures in
    let none = no_fault c.args.candidate.fault c.in_default.not-Some in
    let same : c.admit.new.self.state ≡ s.machine.state = e.state ∙ refused_same s.machine.state plan c.args.limit c.in-Err.refused e.refused in
    let fails : (t : StateTable) → t ≡ record (the_view s) { machine = c.admit.new.self } → IsFailed plan c.args.candidate.fault c.args.limit c.args.self.now t (Refused c.in-Err.refused) =
    λ t is.
    subst (λ (x : StateTable). IsFailed plan c.args.candidate.fault c.args.limit x t (Refused c.in-Err.refused)) c.self.view_is
    (subst (λ (x : StateTable). IsFailed plan c.args.candidate.fault c.args.limit (the_view s) x (Refused c.in-Err.refused)) (sym is)
    (record { why = (none, e.refused); machine = same; pairs = refl; room = refl })) in
    elim c.match-candidate-3.branch [
      | in-Some-2 w ↦ fails c.match-candidate-3.self w.self-is
      | in-None-2 w ↦ fails c.match-candidate-3.self w.self-is
    ]

pub returns-in-Err-clause-step : goal.returns-in-Err-clause-step
returns-in-Err-clause-step c =
    let i = c.args.inputs.now in
    let plan = c.args.plan.now in
    let s = c.self.inside in
    let e = c.in-Err.ensures in
    let same : c.admit.new.self.state ≡ s.machine.state = e.state ∙ refused_same s.machine.state plan c.args.limit c.in-Err.refused e.refused in
    let live : AreLive s.machine.state.placer s.pairs.all.items s.pairs.live.items = subst (λ (x : StateTable). AreLive x.machine.state.placer x.pairs x.live) (sym c.self.view_is) c.requires.live in
    let step : (t : StateTable) → t ≡ record (the_view s) { machine = c.admit.new.self } → IsAdmissionStep i plan c.args.self.now t =
    λ t is.
    subst (IsAdmissionStep i plan c.args.self.now) (sym is)
    (step_same i plan (the_view s) c.args.self.now (record (the_view s) { machine = c.admit.new.self }) c.self.view_is (inr e.ready)
    (subst (λ (m : Instrumented). AreLive m.placer s.pairs.all.items s.pairs.live.items) (sym same) live) refl e.core) in
    elim c.match-candidate-3.branch [
      | in-Some-2 w ↦ step c.match-candidate-3.self w.self-is
      | in-None-2 w ↦ step c.match-candidate-3.self w.self-is
    ]
