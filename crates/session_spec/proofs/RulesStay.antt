-- The rules of the search stay what they are.
use Rattle.std.proofs.Common.{◌≡◌, ℕ, List, [], ◌∷◌, Option, Some, None, Ok, Err, refl, ap, ◌∙◌}
use Rattle.std.specs.Prelude.{Bool, true, false, cond, drop, nat_le, nat_lt, Result}
use Rattle.pn_types.specs.declared.pick.PickCause.{PickCause}
use Rattle.pn_types.specs.declared.plan.Plan.{Plan}
use Rattle.mdl_ast.specs.declared.items.PhaseDecl.{PhaseDecl}
use Rattle.mdl_check.specs.declared.checked.CheckedWish.{CheckedWish}
use Rattle.mdl_plan.specs.declared.fault.PlanFault.{PlanFault}
use Rattle.pn_types.specs.declared.quantum.Quantum.{Quantum}
use Rattle.instrument.specs.Placements.{Placements, admission}
use Rattle.instrument.specs.declared.number.Refused.{Refused}
use Rattle.w3_search.specs.declared.node.NodeSample.{NodeSample}
use Rattle.w3_search.specs.Steps.{Rules, SearchData, with_next_phase, search_step, with_all_families, with_all_samples, with_end, with_phases}
use Rattle.session_spec.specs.declared.data.MetricFocusPair.{MetricFocusPair}
use Rattle.session_spec.specs.Inputs.{Inputs, cause_of_plan, cause_of_refusal, first_wishes, planned}
use Rattle.session_spec.specs.Searches.{rules_of}
use Rattle.session_spec.specs.States.{SessionState, State, first_kept}
use Rattle.session_spec.specs.Admission.{shown_now, with_admission, with_answer, with_drop, with_plan, with_refused, with_show, with_wish, with_wishes}
use Rattle.session_spec.specs.Tests.{with_tests}
use Rattle.session_spec.specs.Turns.{with_entries, with_hart, with_quiet}
use Rattle.session_spec.specs.Due.{with_arms, with_frees, with_next, with_samples}
use Rattle.session_spec.specs.Verdicts.{tester_of, with_search_end, with_verdicts, without_tester, without_tests}
use Rattle.session_spec.specs.Opening.{opening_state, wished, with_agenda, with_all}
use Rattle.session_spec.specs.Work.{final_state, first_state, is_due, state_admitted, state_armed, state_done, state_ended, state_handed, state_judged, state_last, state_next, state_quiet, state_sampled, state_turned, state_worked, after_quantum, tests_now, after_quanta, after_quanta_from}
use Rattle.session_spec.proofs.Queues.{tests_rest}

-- ---- the search

phases_rules : (t : ℕ) (ps : List PhaseDecl) (v : SearchData) → (with_phases t ps v).rules ≡ v.rules
phases_rules t [] v = refl
phases_rules t (p ∷ ps) v = by (nat_le p.at t) (phases_rules t ps (with_next_phase v))
  where
    by : (b : Bool) → (with_phases t ps (with_next_phase v)).rules ≡ v.rules → (cond b (with_phases t ps (with_next_phase v)) v).rules ≡ v.rules
    by true e = e
    by false e = refl

-- a step of it
pub step_rules : (t : ℕ) (ss : List NodeSample) (v : SearchData) → (search_step t ss v).rules ≡ v.rules
unfolding search_step
step_rules t ss v = let w = with_all_families (with_all_samples t ss v) in phases_rules t (drop w.present w.rules.phases) w

pub end_rules : (v : SearchData) → (with_end v).rules ≡ v.rules
end_rules v = refl

-- ---- nodes that are taken

pub tests_rules : (i : Inputs) (k : SessionState) → (with_tests i k).search.rules ≡ k.search.rules
tests_rules i k = (tests_rest i k).rules

-- ---- wishes: none is anything to the search

module _ (i : Inputs) (w : CheckedWish) (k : SessionState) where
  refused_search : (o : Option PickCause) → (with_refused o w k).search ≡ k.search
  refused_search None = refl
  refused_search (Some cause) = refl

  answer_search : (r : Result Placements Refused) (plan : Plan) → (with_answer r w plan k).search ≡ k.search
  answer_search (Err refused) plan = refused_search (cause_of_refusal refused)
  answer_search (Ok q) plan = refl

  plan_search : (r : Result Plan PlanFault) → (with_plan r w k).search ≡ k.search
  plan_search (Err fault) = refused_search (Some (cause_of_plan fault))
  plan_search (Ok plan) = answer_search (admission k.machine.placer plan None) plan

  show_search : (o : Option MetricFocusPair) → (with_show o i w k).search ≡ k.search
  show_search (Some s) = refl
  show_search None = plan_search (planned i w.metric w.focus)

  drop_search : (o : Option MetricFocusPair) → (with_drop o w k).search ≡ k.search
  drop_search None = refl
  drop_search (Some s) = refl

  pub wish_search : (with_wish i w k).search ≡ k.search
  unfolding with_wish
  wish_search = by w.show
    where
      by : (b : Bool) → (cond b (with_show (shown_now k w) i w k) (with_drop (shown_now k w) w k)).search ≡ k.search
      by true = show_search (shown_now k w)
      by false = drop_search (shown_now k w)

abbrev one_wish : Inputs → CheckedWish → List CheckedWish → SessionState → SessionState
one_wish i w ws k = with_wish i w (record k { wishes = ws })

pub wishes_search : (i : Inputs) (ws : List CheckedWish) (k : SessionState) → (with_wishes i ws k).search ≡ k.search
wishes_search i [] k = refl
wishes_search i (w ∷ ws) k = by (nat_le w.at k.time) (wishes_search i ws (one_wish i w ws k))
  where
    by : (b : Bool) → (with_wishes i ws (one_wish i w ws k)).search ≡ (one_wish i w ws k).search → (cond b (with_wishes i ws (one_wish i w ws k)) k).search ≡ k.search
    by true e = e ∙ wish_search i w (record k { wishes = ws })
    by false e = refl

pub all_search : (i : Inputs) (ws : List CheckedWish) (k : SessionState) → (with_all i ws k).search ≡ k.search
all_search i [] k = refl
all_search i (w ∷ ws) k = all_search i ws (with_wish i w k) ∙ wish_search i w k

-- ---- what is kept

abbrev kept_rules : SessionState → Rules
kept_rules k = k.search.rules

abbrev rules_now : State → Rules
rules_now s = kept_rules s.kept

pub admission_rules : (i : Inputs) (k : SessionState) → kept_rules (with_admission i k) ≡ kept_rules k
unfolding with_admission
admission_rules i k = by k.worked
  where
    by : (b : Bool) → kept_rules (cond b (record (with_tests i (with_wishes i k.wishes k)) { worked = false }) k) ≡ kept_rules k
    by true = tests_rules i (with_wishes i k.wishes k) ∙ ap (λ (v : SearchData). v.rules) (wishes_search i k.wishes k)
    by false = refl

tester_rules : (o : Option MetricFocusPair) (k : SessionState) → kept_rules (without_tester o k) ≡ kept_rules k
tester_rules None k = refl
tester_rules (Some s) k = refl

without_rules : (ns : List ℕ) (k : SessionState) → kept_rules (without_tests ns k) ≡ kept_rules k
without_rules [] k = refl
without_rules (n ∷ ns) k =
    let o = tester_of k.machine.placer n k.shown in
    without_rules ns (without_tester o k) ∙ tester_rules o k

pub verdicts_rules : (samples : List NodeSample) (k : SessionState) → kept_rules (with_verdicts samples k) ≡ kept_rules k
unfolding with_verdicts
verdicts_rules samples k =
    let v = search_step k.time samples k.search in
    without_rules v.drops (record k { search = v }) ∙ step_rules k.time samples k.search

-- ---- steps that are nothing to the search

turned_rules : (h n : ℕ) (s : State) → rules_now (state_turned h n s) ≡ rules_now s
unfolding with_hart
turned_rules h n s = refl

handed_rules : (s : State) → rules_now (state_handed s) ≡ rules_now s
unfolding with_entries
handed_rules s = refl

quiet_rules : (s : State) → rules_now (state_quiet s) ≡ rules_now s
unfolding with_quiet
quiet_rules s = refl

sampled_rules : (i : Inputs) (s : State) → rules_now (state_sampled i s) ≡ rules_now s
unfolding with_samples
sampled_rules i s = refl

armed_rules : (s : State) → rules_now (state_armed s) ≡ rules_now s
unfolding with_frees with_arms
armed_rules s = refl

next_rules : (width : ℕ) (s : State) → rules_now (state_next width s) ≡ rules_now s
unfolding with_next
next_rules width s = refl

ended_rules : (s : State) → rules_now (state_ended s) ≡ rules_now s
unfolding with_search_end
ended_rules s = refl

-- ---- a quantum, and the end

done_rules : (i : Inputs) (s : State) → rules_now (state_done i s) ≡ rules_now s
done_rules i s =
    let sampled = state_sampled i s in
    next_rules i.settings.width (state_judged (tests_now i s) (state_armed sampled))
    ∙ (verdicts_rules (tests_now i s) (state_armed sampled).kept ∙ (armed_rules sampled ∙ sampled_rules i s))

worked_rules : (i : Inputs) (s : State) → rules_now (state_worked i s) ≡ rules_now s
worked_rules i s = by (is_due s.kept)
  where
    by : (b : Bool) → rules_now (cond b (state_done i (state_quiet s)) s) ≡ rules_now s
    by true = done_rules i (state_quiet s) ∙ quiet_rules s
    by false = refl

pub tend_rules : (i : Inputs) (h n : ℕ) (s : State) → (after_quantum i h n s).kept.search.rules ≡ s.kept.search.rules
unfolding after_quantum
tend_rules i h n s =
    let turned = state_turned h n (state_admitted i s) in
    worked_rules i (state_handed turned) ∙ (handed_rules turned ∙ (turned_rules h n (state_admitted i s) ∙ admission_rules i s.kept))

pub closed_rules : (i : Inputs) (s : State) → (final_state i s).kept.search.rules ≡ s.kept.search.rules
unfolding final_state
closed_rules i s =
    let q = state_quiet s in
    ended_rules (cond (nat_lt q.kept.last q.kept.time) (state_last i q) q) ∙ (by (nat_lt q.kept.last q.kept.time) ∙ quiet_rules s)
  where
    by : (b : Bool) → rules_now (cond b (state_last i (state_quiet s)) (state_quiet s)) ≡ rules_now (state_quiet s)
    by true = verdicts_rules (tests_now i (state_quiet s)) (state_sampled i (state_quiet s)).kept ∙ sampled_rules i (state_quiet s)
    by false = refl

-- ---- after quanta

pub opened_rules : (i : Inputs) → (opening_state i).search.rules ≡ rules_of i
unfolding wished with_agenda with_arms
opened_rules i = tests_rules i (wished i) ∙ ap (λ (v : SearchData). v.rules) (all_search i (first_wishes i) (first_kept i))

from_rules : (i : Inputs) (quanta : List Quantum) (s : State) → rules_now (after_quanta_from i quanta s) ≡ rules_now s
from_rules i [] s = refl
from_rules i (q ∷ quanta) s = from_rules i quanta (after_quantum i q.hart q.turns s) ∙ tend_rules i q.hart q.turns s

pub work_rules : (i : Inputs) (quanta : List Quantum) → (after_quanta i quanta).kept.search.rules ≡ rules_of i
unfolding after_quanta
work_rules i quanta = from_rules i quanta (first_state i) ∙ opened_rules i
