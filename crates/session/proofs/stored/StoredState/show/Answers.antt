use Rattle.std.proofs.Common.{◌≡◌, ℕ, Option, Some, None, sym, ap, ◌∙◌, subst}
use Rattle.mdl_check.specs.declared.checked.CheckedWish.{CheckedWish}
use Rattle.mdl_plan.specs.declared.fault.PlanFault.{PlanFault}
use Rattle.pn_types.specs.declared.focus.Focus.{Focus}
use Rattle.pn_types.specs.declared.plan.Plan.{Plan}
use Rattle.session_spec.specs.Admission.{with_answer, with_plan, with_refused}
use Rattle.session_spec.specs.Inputs.{Inputs, planned}
use Rattle.session_spec.specs.States.{SessionState}
use Rattle.session.specs.declared.candidate.Candidate.{Candidate}
use Rattle.session.specs.declared.failure.Failure.{Failure}
use Rattle.session.specs.declared.failure.Failure.TheVariants.{NoPlan, Refused}
use Rattle.session.specs.Candidates.{IsCandidate, IsPairOf, IsPlanOrFault}
use Rattle.session.specs.Outcomes.{IsFailure, pick_cause_of}
use Rattle.session.specs.Tables.{kept_of}
use Rattle.session.proofs.Waiting.{kept_same}
use Rattle.session.proofs.stored.StoredState.show.Goals as goal

module _ (i : Inputs) (w : CheckedWish) (plan : Plan) (c : Candidate) (pair : IsPairOf None w.metric w.focus c) (good : IsCandidate i plan c) (k : SessionState) where
  planned_by : (o : Option PlanFault) → c.fault ≡ o → IsPlanOrFault i w.metric w.focus o plan
  planned_by o e =
      subst (λ (f : Focus). IsPlanOrFault i w.metric f o plan) pair.focus_is
      (subst (λ (m : ℕ). IsPlanOrFault i m c.focus o plan) pair.metric_is (subst (λ (y : Option PlanFault). IsPlanOrFault i c.metric c.focus y plan) e good.planned))

  -- a wish whose pair gets no instrument is refused
  wish_failed : (failure : Failure) → IsFailure k.machine.placer plan c.fault None failure → with_plan (planned i w.metric w.focus) w k ≡ with_refused (pick_cause_of failure) w k
  wish_failed (NoPlan fault) e = ap (λ r. with_plan r w k) (planned_by (Some fault) e)
  wish_failed (Refused refused) e = ap (λ r. with_plan r w k) (planned_by None e.0).0 ∙ ap (λ r. with_answer r w plan k) e.1

pub returns-in-Err-clause-kept : goal.returns-in-Err-clause-kept
returns-in-Err-clause-kept c ws =
    let i = c.args.inputs.now in
    let w = c.args.wish.now in
    let t = c.args.self.now in
    let new = c.instrument.new.self in
    let failed = c.in-Err.ensures.err in
    let same = kept_same ws t new c.in-Err.ensures.same failed.machine failed.pairs in
    c.refuse.ensures.kept ws
    ∙ (ap (λ o. with_refused o w (kept_of ws new)) c.pick_cause.ensures
    ∙ (ap (λ y. with_refused (pick_cause_of c.in-Err.failure) w y) same
    ∙ sym (wish_failed i w c.args.plan.now c.args.candidate c.requires.pair c.requires.candidate (kept_of ws t) c.in-Err.failure failed.why)))
