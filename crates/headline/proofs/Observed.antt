-- Where the observed cost is above its limit, an admission leaves the search as it is.
use Rattle.std.proofs.Common.{◌≡◌, Bool, true, false, cond, List, [], ◌∷◌, Option, Some, None, Result, Ok, Err, refl, ap, ◌∙◌}
use Rattle.std.specs.Prelude.{nat_le, nat_lt}
use Rattle.instrument.specs.Placements.{Placements, admission}
use Rattle.instrument.specs.declared.number.Refused.{Refused}
use Rattle.mdl_check.specs.declared.checked.CheckedWish.{CheckedWish}
use Rattle.mdl_plan.specs.declared.fault.PlanFault.{PlanFault}
use Rattle.pn_types.specs.declared.pick.PickCause.{PickCause}
use Rattle.pn_types.specs.declared.plan.Plan.{Plan}
use Rattle.session_spec.specs.Admission.{shown_now, with_admission, with_answer, with_drop, with_plan, with_refused, with_show, with_wish, with_wishes}
use Rattle.session_spec.specs.Costs.{CostsStay}
use Rattle.session_spec.specs.Inputs.{Inputs, cause_of_plan, cause_of_refusal, planned}
use Rattle.session_spec.specs.Searches.{rules_of}
use Rattle.session_spec.specs.States.{SessionState}
use Rattle.session_spec.specs.Tests.{with_tests}
use Rattle.session_spec.specs.declared.data.MetricFocusPair.{MetricFocusPair}
use Rattle.session_spec.proofs.RulesStay.{wishes_search}

-- ---- wishes: none is anything to the observed cost

module _ (i : Inputs) (w : CheckedWish) (k : SessionState) where
  refused_observed : (o : Option PickCause) → (with_refused o w k).observed ≡ k.observed
  refused_observed None = refl
  refused_observed (Some cause) = refl

  answer_observed : (r : Result Placements Refused) (plan : Plan) → (with_answer r w plan k).observed ≡ k.observed
  answer_observed (Err refused) plan = refused_observed (cause_of_refusal refused)
  answer_observed (Ok q) plan = refl

  plan_observed : (r : Result Plan PlanFault) → (with_plan r w k).observed ≡ k.observed
  plan_observed (Err fault) = refused_observed (Some (cause_of_plan fault))
  plan_observed (Ok plan) = answer_observed (admission k.machine.placer plan None) plan

  show_observed : (o : Option MetricFocusPair) → (with_show o i w k).observed ≡ k.observed
  show_observed (Some s) = refl
  show_observed None = plan_observed (planned i w.metric w.focus)

  drop_observed : (o : Option MetricFocusPair) → (with_drop o w k).observed ≡ k.observed
  drop_observed None = refl
  drop_observed (Some s) = refl

  wish_observed : (with_wish i w k).observed ≡ k.observed
  unfolding with_wish
  wish_observed = by w.show
    where
      by : (b : Bool) → (cond b (with_show (shown_now k w) i w k) (with_drop (shown_now k w) w k)).observed ≡ k.observed
      by true = show_observed (shown_now k w)
      by false = drop_observed (shown_now k w)

abbrev one_wish : Inputs → CheckedWish → List CheckedWish → SessionState → SessionState
one_wish i w ws k = with_wish i w (record k { wishes = ws })

wishes_observed : (i : Inputs) (ws : List CheckedWish) (k : SessionState) → (with_wishes i ws k).observed ≡ k.observed
wishes_observed i [] k = refl
wishes_observed i (w ∷ ws) k = by (nat_le w.at k.time) (wishes_observed i ws (one_wish i w ws k))
  where
    by : (b : Bool) → (with_wishes i ws (one_wish i w ws k)).observed ≡ (one_wish i w ws k).observed → (cond b (with_wishes i ws (one_wish i w ws k)) k).observed ≡ k.observed
    by true e = e ∙ wish_observed i w (record k { wishes = ws })
    by false e = refl

-- ---- an admission

pub none_admitted : CostsStay → (i : Inputs) (k : SessionState) → nat_lt (rules_of i).decl.observed k.observed ≡ true → (with_admission i k).search ≡ k.search
unfolding with_admission
none_admitted costs i k above = by k.worked
  where
    taken : (with_tests i (with_wishes i k.wishes k)).search ≡ k.search
    taken =
        ap (λ (j : SessionState). j.search)
        (costs.observed i (with_wishes i k.wishes k) (ap (nat_lt (rules_of i).decl.observed) (wishes_observed i k.wishes k) ∙ above))
        ∙ wishes_search i k.wishes k

    by : (b : Bool) → (cond b (record (with_tests i (with_wishes i k.wishes k)) { worked = false }) k).search ≡ k.search
    by true = taken
    by false = refl
