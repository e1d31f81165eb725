-- What takes no samples: admissions, frees, armings and verdicts. They take no time either.
use Rattle.std.proofs.Common.{◌≡◌, ◌∙◌, ℕ, List, [], ◌∷◌, Option, Some, None, Ok, Err, refl}
use Rattle.std.specs.Prelude.{Bool, true, false, cond, Result, nat_le, nat_lt, slice_get, take}
use Rattle.std.proofs.lemmas.Bool.{cond_both}
use Rattle.pn_types.specs.declared.pick.BarCause.{BarCause}
use Rattle.pn_types.specs.declared.pick.PickCause.{PickCause}
use Rattle.pn_types.specs.declared.pick.PickCause.TheVariants.{AlreadyShown, NotShown}
use Rattle.pn_types.specs.declared.plan.Plan.{Plan}
use Rattle.prim_code.specs.Counts.{predicted}
use Rattle.mdl_check.specs.declared.checked.CheckedWish.{CheckedWish}
use Rattle.mdl_plan.specs.declared.fault.PlanFault.{PlanFault}
use Rattle.instrument.specs.Placements.{Placements, admission}
use Rattle.instrument.specs.declared.number.Refused.{Refused}
use Rattle.w3_search.specs.declared.node.Node.{Node}
use Rattle.w3_search.specs.declared.node.NodeSample.{NodeSample}
use Rattle.w3_search.specs.Nodes.{is_waiting, waiting_of}
use Rattle.w3_search.specs.Steps.{search_step}
use Rattle.session_spec.specs.declared.data.MetricFocusPair.{MetricFocusPair}
use Rattle.session_spec.specs.Inputs.{Inputs, cause_of_plan, cause_of_refusal, first_wishes, planned}
use Rattle.session_spec.specs.Searches.{bar_of_plan, bar_of_refusal, metric_of, rules_of}
use Rattle.session_spec.specs.Due.{with_arms}
use Rattle.session_spec.specs.Opening.{opening_state, wished, with_agenda, with_all}
use Rattle.session_spec.specs.States.{SessionState, first_kept}
use Rattle.session_spec.specs.Admission.{shown_now, with_admission, with_answer, with_drop, with_plan, with_refused, with_show, with_wish, with_wishes}
use Rattle.session_spec.specs.Tests.{barred, in_force, is_full, must_wait, taken_at_once, with_cost, with_node, with_nodes, with_plan_of, with_test, with_tests, with_waiting}
use Rattle.session_spec.specs.Verdicts.{tester_of, with_verdicts, without_tester, without_tests}

-- as many samples, and the same time
abbrev pub Same : SessionState → SessionState → Type 0
Same k j = (j.samples ≡ k.samples) × (j.time ≡ k.time)

both : (k j m : SessionState) → Same k j → Same j m → Same k m
both k j m a b = (b.0 ∙ a.0, b.1 ∙ a.1)

-- ---- wishes

refused_same : (cause : Option PickCause) (w : CheckedWish) (k : SessionState) → Same k (with_refused cause w k)
refused_same None w k = (refl, refl)
refused_same (Some cause) w k = (refl, refl)

answer_same : (r : Result Placements Refused) (w : CheckedWish) (plan : Plan) (k : SessionState) → Same k (with_answer r w plan k)
answer_same (Err refused) w plan k = refused_same (cause_of_refusal refused) w k
answer_same (Ok placer) w plan k = (refl, refl)

plan_same : (r : Result Plan PlanFault) (w : CheckedWish) (k : SessionState) → Same k (with_plan r w k)
plan_same (Err fault) w k = refused_same (Some (cause_of_plan fault)) w k
plan_same (Ok plan) w k = answer_same (admission k.machine.placer plan None) w plan k

show_same : (o : Option MetricFocusPair) (i : Inputs) (w : CheckedWish) (k : SessionState) → Same k (with_show o i w k)
show_same (Some s) i w k = refused_same (Some AlreadyShown) w k
show_same None i w k = plan_same (planned i w.metric w.focus) w k

drop_same : (o : Option MetricFocusPair) (w : CheckedWish) (k : SessionState) → Same k (with_drop o w k)
drop_same None w k = refused_same (Some NotShown) w k
drop_same (Some s) w k = (refl, refl)

wish_same : (i : Inputs) (w : CheckedWish) (k : SessionState) → Same k (with_wish i w k)
unfolding with_wish
wish_same i w k = by w.show
  where
    by : (b : Bool) → Same k (cond b (with_show (shown_now k w) i w k) (with_drop (shown_now k w) w k))
    by true = show_same (shown_now k w) i w k
    by false = drop_same (shown_now k w) w k

wishes_same : (i : Inputs) (ws : List CheckedWish) (k : SessionState) → Same k (with_wishes i ws k)
wishes_same i [] k = (refl, refl)
wishes_same i (w ∷ ws) k =
    let j : SessionState = record k { wishes = ws } in
    cond_both (nat_le w.at k.time) (with_wishes i ws (with_wish i w j)) k (Same k)
    (λ _. both k (with_wish i w j) (with_wishes i ws (with_wish i w j)) (wish_same i w j) (wishes_same i ws (with_wish i w j))) (λ _. (refl, refl))

-- ---- nodes

module _ (i : Inputs) (n : ℕ) where
  barred_same : (cause : Option BarCause) (k : SessionState) → Same k (barred cause n k)
  barred_same None k = (refl, refl)
  barred_same (Some cause) k = (refl, refl)

  test_same : (r : Result Placements Refused) (node : Node) (plan : Plan) (k : SessionState) → Same k (with_test r i n node plan k)
  test_same (Err refused) node plan k = barred_same (bar_of_refusal refused) k
  test_same (Ok placer) node plan k = (refl, refl)

  cost_same : (node : Node) (plan : Plan) (k : SessionState) → Same k (with_cost i n node plan k)
  cost_same node plan k =
      let a = admission k.machine.placer plan (Some (rules_of i).decl.cost) in
      cond_both (must_wait (rules_of i).decl.cost (predicted plan) (in_force i k.machine.placer k.shown)) k (with_test a i n node plan k) (Same k)
      (λ _. (refl, refl)) (λ _. test_same a node plan k)

  plan_of_same : (r : Result Plan PlanFault) (node : Node) (k : SessionState) → Same k (with_plan_of r i n node k)
  plan_of_same (Err fault) node k = barred_same (Some (bar_of_plan fault)) k
  plan_of_same (Ok plan) node k = cost_same node plan k

  waiting_same : (o : Option Node) (k : SessionState) → Same k (with_waiting o i n k)
  waiting_same None k = (refl, refl)
  waiting_same (Some node) k =
      cond_both (is_waiting node.state) (with_plan_of (planned i (metric_of i node) node.focus) i n node k) k (Same k)
      (λ _. plan_of_same (planned i (metric_of i node) node.focus) node k) (λ _. (refl, refl))

  node_same : (k : SessionState) → Same k (with_node i n k)
  unfolding with_node
  node_same k = waiting_same (slice_get k.search.nodes n) k

nodes_same : (i : Inputs) (ns : List ℕ) (k : SessionState) → Same k (with_nodes i ns k)
nodes_same i [] k = (refl, refl)
nodes_same i (n ∷ ns) k =
    cond_both (is_full k.machine.placer) k (with_nodes i ns (with_node i n k)) (Same k)
    (λ _. (refl, refl)) (λ _. both k (with_node i n k) (with_nodes i ns (with_node i n k)) (node_same i n k) (nodes_same i ns (with_node i n k)))

tests_same : (i : Inputs) (k : SessionState) → Same k (with_tests i k)
unfolding with_tests
tests_same i k =
    let ns = take taken_at_once (waiting_of k.search.nodes) in
    cond_both (nat_lt (rules_of i).decl.observed k.observed) k (with_nodes i ns k) (Same k) (λ _. (refl, refl)) (λ _. nodes_same i ns k)

-- an admission
pub admission_same : (i : Inputs) (k : SessionState) → Same k (with_admission i k)
unfolding with_admission
admission_same i k =
    let w = with_wishes i k.wishes k in
    let j = with_tests i w in
    cond_both k.worked (record j { worked = false }) k (Same k) (λ _. both k w j (wishes_same i k.wishes k) (tests_same i w)) (λ _. (refl, refl))

-- ---- verdicts

tester_same : (o : Option MetricFocusPair) (k : SessionState) → Same k (without_tester o k)
tester_same None k = (refl, refl)
tester_same (Some s) k = (refl, refl)

without_same : (ns : List ℕ) (k : SessionState) → Same k (without_tests ns k)
without_same [] k = (refl, refl)
without_same (n ∷ ns) k =
    let o = tester_of k.machine.placer n k.shown in
    both k (without_tester o k) (without_tests ns (without_tester o k)) (tester_same o k) (without_same ns (without_tester o k))

pub verdicts_same : (samples : List NodeSample) (k : SessionState) → Same k (with_verdicts samples k)
unfolding with_verdicts
verdicts_same samples k =
    let step = search_step k.time samples k.search in
    without_same step.drops (record k { search = step })

-- ---- the opening

all_same : (i : Inputs) (ws : List CheckedWish) (k : SessionState) → Same k (with_all i ws k)
all_same i [] k = (refl, refl)
all_same i (w ∷ ws) k = both k (with_wish i w k) (with_all i ws (with_wish i w k)) (wish_same i w k) (all_same i ws (with_wish i w k))

-- a session begins at time 0
pub opened_early : (i : Inputs) → (opening_state i).time ≡ 0
unfolding wished with_agenda with_arms
opened_early i = (both (first_kept i) (wished i) (with_tests i (wished i)) (all_same i (first_wishes i) (first_kept i)) (tests_same i (wished i))).1
