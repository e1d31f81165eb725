-- What each single step of an admission keeps, the admission keeps.
use Rattle.std.proofs.Common.{◌≡◌, ℕ, List, [], ◌∷◌, ◌++◌, Option, Some, None, Ok, Err, refl, inl, inr}
use Rattle.std.specs.Prelude.{Bool, true, false, cond, Result, nat_le, nat_lt, slice_get, take}
use Rattle.std.proofs.lemmas.Bool.{cond_both, cond-true}
use Rattle.pn_types.specs.declared.pick.BarCause.{BarCause}
use Rattle.pn_types.specs.declared.pick.PickCause.{PickCause}
use Rattle.pn_types.specs.declared.pick.PickCause.TheVariants.{AlreadyShown, NotShown}
use Rattle.pn_types.specs.declared.plan.Plan.{Plan}
use Rattle.prim_code.specs.Counts.{predicted}
use Rattle.mdl_check.specs.declared.checked.CheckedWish.{CheckedWish}
use Rattle.mdl_plan.specs.declared.fault.PlanFault.{PlanFault}
use Rattle.instrument.specs.Placements.{Placements, admission}
use Rattle.instrument.specs.Scenes.{Drops}
use Rattle.instrument.specs.declared.number.Refused.{Refused}
use Rattle.instrumented.specs.Instrumented.{after_act}
use Rattle.w3_search.specs.declared.node.Node.{Node}
use Rattle.w3_search.specs.declared.node.NodeState.TheVariants.{Barred}
use Rattle.w3_search.specs.Nodes.{is_waiting, waiting_of}
use Rattle.w3_search.specs.Steps.{with_state}
use Rattle.session_spec.specs.declared.data.MetricFocusPair.{MetricFocusPair}
use Rattle.session_spec.specs.Inputs.{Inputs, cause_of_plan, cause_of_refusal, planned}
use Rattle.session_spec.specs.Searches.{bar_of_plan, bar_of_refusal, metric_of, rules_of}
use Rattle.session_spec.specs.States.{SessionState}
use Rattle.session_spec.specs.Admission.{with_admitted, shown_next, shown_now, with_admission, with_answer, with_drop, with_plan, with_refused, with_show, with_wish, with_wishes}
use Rattle.session_spec.specs.Opening.{with_all}
use Rattle.session_spec.specs.Tests.{barred, in_force, is_full, must_wait, taken_at_once, tested, with_cost, with_node, with_nodes, with_plan_of, with_test, with_tests, with_waiting}
use Rattle.session_spec.specs.Bars.{IsBarredBy}
use Rattle.session_spec.proofs.Grown.{some_same}

-- the same but for what isn't told of the machine, the instruments, the search, the time, the last samples and the next due work
pub record IsBeside (k j : SessionState) : Type 0 where
  pub machine : j.machine ≡ k.machine
  pub shown : j.shown ≡ k.shown
  pub search : j.search ≡ k.search
  pub time : j.time ≡ k.time
  pub last : j.last ≡ k.last
  pub due : j.due ≡ k.due

-- what each single step of a wish keeps
pub record KeepsWish (i : Inputs) (P : SessionState → Type 0) : Type 0 where
  pub beside : (k j : SessionState) → IsBeside k j → P k → P j
  pub drops : (k : SessionState) (n : ℕ) → P k → P (record k { machine = after_act (Drops n) k.machine })
  pub wished : (k : SessionState) (plan : Plan) (w : CheckedWish) (placer : Placements) → planned i w.metric w.focus ≡ Ok plan → admission k.machine.placer plan None ≡ Ok placer → P k
      → P (record (with_admitted plan k) { shown = k.shown ++ shown_next w k ∷ [] })

-- what each single step of the search's taking keeps
pub record KeepsNode (i : Inputs) (P : SessionState → Type 0) : Type 0 where
  pub barred : (k : SessionState) (n : ℕ) (node : Node) (cause : BarCause) → slice_get k.search.nodes n ≡ Some node → is_waiting node.state ≡ true → IsBarredBy i k node cause → P k
      → P (record k { search = with_state n (Barred cause) k.search })
  pub tested : (k : SessionState) (n : ℕ) (node : Node) (plan : Plan) (placer : Placements) → slice_get k.search.nodes n ≡ Some node → is_waiting node.state ≡ true
      → planned i (metric_of i node) node.focus ≡ Ok plan → must_wait (rules_of i).decl.cost (predicted plan) (in_force i k.machine.placer k.shown) ≡ false
      → admission k.machine.placer plan (Some (rules_of i).decl.cost) ≡ Ok placer → P k → P (tested i n node plan k)

-- what each single step keeps
pub record Keeps (i : Inputs) (P : SessionState → Type 0) : Type 0 where
  pub beside : (k j : SessionState) → IsBeside k j → P k → P j
  pub drops : (k : SessionState) (n : ℕ) → P k → P (record k { machine = after_act (Drops n) k.machine })
  pub wished : (k : SessionState) (plan : Plan) (w : CheckedWish) (placer : Placements) → planned i w.metric w.focus ≡ Ok plan → admission k.machine.placer plan None ≡ Ok placer → P k
      → P (record (with_admitted plan k) { shown = k.shown ++ shown_next w k ∷ [] })
  pub barred : (k : SessionState) (n : ℕ) (node : Node) (cause : BarCause) → slice_get k.search.nodes n ≡ Some node → is_waiting node.state ≡ true → IsBarredBy i k node cause → P k
      → P (record k { search = with_state n (Barred cause) k.search })
  pub tested : (k : SessionState) (n : ℕ) (node : Node) (plan : Plan) (placer : Placements) → slice_get k.search.nodes n ≡ Some node → is_waiting node.state ≡ true
      → planned i (metric_of i node) node.focus ≡ Ok plan → must_wait (rules_of i).decl.cost (predicted plan) (in_force i k.machine.placer k.shown) ≡ false
      → admission k.machine.placer plan (Some (rules_of i).decl.cost) ≡ Ok placer → P k → P (tested i n node plan k)

pub of_wishes : (i : Inputs) (P : SessionState → Type 0) → Keeps i P → KeepsWish i P
of_wishes i P keep = record { beside = keep.beside; drops = keep.drops; wished = keep.wished }

pub of_nodes : (i : Inputs) (P : SessionState → Type 0) → Keeps i P → KeepsNode i P
of_nodes i P keep = record { barred = keep.barred; tested = keep.tested }

module _ (i : Inputs) (P : SessionState → Type 0) (keep : KeepsWish i P) where
  -- ---- wishes

  refused_kept : (cause : Option PickCause) (w : CheckedWish) (k : SessionState) → P k → P (with_refused cause w k)
  refused_kept None w k p = p
  refused_kept (Some cause) w k p = keep.beside k (with_refused (Some cause) w k) (record { machine = refl; shown = refl; search = refl; time = refl; last = refl; due = refl }) p

  answer_kept : (plan : Plan) (w : CheckedWish) (k : SessionState) (a : Result Placements Refused) → planned i w.metric w.focus ≡ Ok plan → admission k.machine.placer plan None ≡ a → P k → P (with_answer a w plan k)
  answer_kept plan w k (Err refused) is e p = refused_kept (cause_of_refusal refused) w k p
  answer_kept plan w k (Ok placer) is e p = keep.wished k plan w placer is e p

  plan_kept : (r : Result Plan PlanFault) (w : CheckedWish) (k : SessionState) → planned i w.metric w.focus ≡ r → P k → P (with_plan r w k)
  plan_kept (Err fault) w k is p = refused_kept (Some (cause_of_plan fault)) w k p
  plan_kept (Ok plan) w k is p = answer_kept plan w k (admission k.machine.placer plan None) is refl p

  show_kept : (o : Option MetricFocusPair) (w : CheckedWish) (k : SessionState) → P k → P (with_show o i w k)
  show_kept (Some s) w k p = refused_kept (Some AlreadyShown) w k p
  show_kept None w k p = plan_kept (planned i w.metric w.focus) w k refl p

  drop_kept : (o : Option MetricFocusPair) (w : CheckedWish) (k : SessionState) → P k → P (with_drop o w k)
  drop_kept None w k p = refused_kept (Some NotShown) w k p
  drop_kept (Some s) w k p = keep.drops k s.instrument.n p

  pub wish_kept : (w : CheckedWish) (k : SessionState) → P k → P (with_wish i w k)
  unfolding with_wish
  wish_kept w k p = by w.show
    where
      by : (b : Bool) → P (cond b (with_show (shown_now k w) i w k) (with_drop (shown_now k w) w k))
      by true = show_kept (shown_now k w) w k p
      by false = drop_kept (shown_now k w) w k p

  pub wishes_kept : (ws : List CheckedWish) (k : SessionState) → P k → P (with_wishes i ws k)
  wishes_kept [] k p = p
  wishes_kept (w ∷ ws) k p =
      let j : SessionState = record k { wishes = ws } in
      cond_both (nat_le w.at k.time) (with_wishes i ws (with_wish i w j)) k P
      (λ _. wishes_kept ws (with_wish i w j) (wish_kept w j (keep.beside k j (record { machine = refl; shown = refl; search = refl; time = refl; last = refl; due = refl }) p))) (λ _. p)

  -- those of the opening
  pub all_kept : (ws : List CheckedWish) (k : SessionState) → P k → P (with_all i ws k)
  all_kept [] k p = p
  all_kept (w ∷ ws) k p = all_kept ws (with_wish i w k) (wish_kept w k p)

module _ (i : Inputs) (P : SessionState → Type 0) (keep : KeepsNode i P) where
  -- ---- nodes

  module _ (n : ℕ) (node : Node) (k : SessionState) (stands : slice_get k.search.nodes n ≡ Some node) (waits : is_waiting node.state ≡ true) (p : P k) where
    barred_kept : (cause : Option BarCause) → ((c : BarCause) → cause ≡ Some c → IsBarredBy i k node c) → P (barred cause n k)
    barred_kept None by = p
    barred_kept (Some cause) by = keep.barred k n node cause stands waits (by cause refl) p

    module _ (plan : Plan) (planned : planned i (metric_of i node) node.focus ≡ Ok plan) where
      test_kept : must_wait (rules_of i).decl.cost (predicted plan) (in_force i k.machine.placer k.shown) ≡ false
          → (a : Result Placements Refused) → admission k.machine.placer plan (Some (rules_of i).decl.cost) ≡ a → P (with_test a i n node plan k)
      test_kept room (Err refused) e = barred_kept (bar_of_refusal refused) (λ c f. inr (record { plan = plan; planned = planned; waits = room; refused = refused; refusal = e; cause = f }))
      test_kept room (Ok placer) e = keep.tested k n node plan placer stands waits planned room e p

      cost_kept : P (with_cost i n node plan k)
      cost_kept =
          let a = admission k.machine.placer plan (Some (rules_of i).decl.cost) in
          cond_both (must_wait (rules_of i).decl.cost (predicted plan) (in_force i k.machine.placer k.shown)) k (with_test a i n node plan k) P (λ _. p) (λ room. test_kept room a refl)

    plan_of_kept : (r : Result Plan PlanFault) → planned i (metric_of i node) node.focus ≡ r → P (with_plan_of r i n node k)
    plan_of_kept (Err fault) e = barred_kept (Some (bar_of_plan fault)) (λ c f. inl (record { fault = fault; planned = e; cause = some_same (bar_of_plan fault) c f }))
    plan_of_kept (Ok plan) e = cost_kept plan e

  waiting_kept : (n : ℕ) (k : SessionState) (o : Option Node) → slice_get k.search.nodes n ≡ o → P k → P (with_waiting o i n k)
  waiting_kept n k None e p = p
  waiting_kept n k (Some node) e p =
      cond_both (is_waiting node.state) (with_plan_of (planned i (metric_of i node) node.focus) i n node k) k P
      (λ waits. plan_of_kept n node k e waits p (planned i (metric_of i node) node.focus) refl) (λ _. p)

  pub node_kept : (n : ℕ) (k : SessionState) → P k → P (with_node i n k)
  unfolding with_node
  node_kept n k p = waiting_kept n k (slice_get k.search.nodes n) refl p

  pub nodes_kept : (ns : List ℕ) (k : SessionState) → P k → P (with_nodes i ns k)
  nodes_kept [] k p = p
  nodes_kept (n ∷ ns) k p = cond_both (is_full k.machine.placer) k (with_nodes i ns (with_node i n k)) P (λ _. p) (λ _. nodes_kept ns (with_node i n k) (node_kept n k p))

  pub tests_kept : (k : SessionState) → P k → P (with_tests i k)
  unfolding with_tests
  tests_kept k p =
      cond_both (nat_lt (rules_of i).decl.observed k.observed) k (with_nodes i (take taken_at_once (waiting_of k.search.nodes)) k) P
      (λ _. p) (λ _. nodes_kept (take taken_at_once (waiting_of k.search.nodes)) k p)

-- ---- an admission

module _ (i : Inputs) (P : SessionState → Type 0) (keep : Keeps i P) where
  pub admission_kept : (k : SessionState) → P k → P (with_admission i k)
  unfolding with_admission
  admission_kept k p =
      let j = with_tests i (with_wishes i k.wishes k) in
      cond_both k.worked (record j { worked = false }) k P
      (λ _. keep.beside j (record j { worked = false }) (record { machine = refl; shown = refl; search = refl; time = refl; last = refl; due = refl })
      (tests_kept i P (of_nodes i P keep) (with_wishes i k.wishes k) (wishes_kept i P (of_wishes i P keep) k.wishes k p))) (λ _. p)

-- no node is taken where the observed cost is above its limit
pub none_taken : (i : Inputs) (k : SessionState) → nat_lt (rules_of i).decl.observed k.observed ≡ true → with_tests i k ≡ k
unfolding with_tests
none_taken i k e = cond-true (nat_lt (rules_of i).decl.observed k.observed) k (with_nodes i (take taken_at_once (waiting_of k.search.nodes)) k) e
