-- A node that is taken: what the code makes is what the definitions say.
use Rattle.std.proofs.Common.{◌≡◌, ℕ, List, [], ◌∷◌, ◌++◌, Option, Some, None, Ok, refl, sym, ap, ap₂, ◌∙◌, subst}
use Rattle.std.specs.Prelude.{Bool, true, false, cond, slice_get}
use Rattle.std.proofs.lemmas.List.{map-append}
use Rattle.pn_types.specs.declared.plan.Plan.{Plan}
use Rattle.prim_code.specs.Counts.{predicted}
use Rattle.mdl_plan.specs.declared.fault.PlanFault.{PlanFault}
use Rattle.instrument.specs.Placements.{admission}
use Rattle.instrument.specs.declared.number.InstrumentNo.{InstrumentNo}
use Rattle.instrumented.specs.Instrumented.{Instrumented}
use Rattle.mdl_check.specs.declared.checked.CheckedWish.{CheckedWish}
use Rattle.w3_search.specs.declared.node.Node.{Node}
use Rattle.w3_search.specs.declared.node.NodeState.TheVariants.{Active}
use Rattle.w3_search.specs.Nodes.{is_waiting}
use Rattle.w3_search.specs.Steps.{SearchData, with_state}
use Rattle.session_spec.specs.declared.data.MetricFocusPair.{MetricFocusPair}
use Rattle.session_spec.specs.Inputs.{Inputs, planned}
use Rattle.session_spec.specs.Searches.{metric_of, rules_of}
use Rattle.session_spec.specs.States.{SessionState}
use Rattle.session_spec.specs.Tests.{barred, in_force, must_wait, tests_next, with_node, with_plan_of, with_test, with_waiting}
use Rattle.session_pairs.specs.declared.pair.SampledPair.{SampledPair}
use Rattle.session_pairs.proofs.Dropped.{shown_in}
use Rattle.session.specs.declared.candidate.Candidate.{Candidate}
use Rattle.session.specs.declared.failure.Failure.{Failure}
use Rattle.session.specs.declared.failure.Failure.TheVariants.{NoPlan, Refused}
use Rattle.session.specs.Candidates.{IsPlanOrFault, newly_shown}
use Rattle.session.specs.NodeCandidates.{IsNodeCandidate}
use Rattle.session.specs.Outcomes.{IsFailure, IsInstrumented, bar_cause_of}
use Rattle.session.specs.Tables.{StateTable, kept_of}

module _ (i : Inputs) (n : ℕ) (k : SessionState) (node : Node) (stands : slice_get k.search.nodes n ≡ Some node) where
  -- one that doesn't wait isn't taken
  pub not_waiting : is_waiting node.state ≡ false → with_node i n k ≡ k
  unfolding with_node
  not_waiting e = ap (λ o. with_waiting o i n k) stands ∙ ap (λ b. cond b (with_plan_of (planned i (metric_of i node) node.focus) i n node k) k) e

  -- one that waits is taken by its plan
  waiting : is_waiting node.state ≡ true → with_node i n k ≡ with_plan_of (planned i (metric_of i node) node.focus) i n node k
  unfolding with_node
  waiting e = ap (λ o. with_waiting o i n k) stands ∙ ap (λ b. cond b (with_plan_of (planned i (metric_of i node) node.focus) i n node k) k) e

  -- one that must wait stays, whether it waits or not
  pub must_stay : (plan : Plan) → planned i (metric_of i node) node.focus ≡ Ok plan → must_wait (rules_of i).decl.cost (predicted plan) (in_force i k.machine.placer k.shown) ≡ true → with_node i n k ≡ k
  must_stay plan e w = by (is_waiting node.state) refl
    where
      by : (b : Bool) → is_waiting node.state ≡ b → with_node i n k ≡ k
      by false f = not_waiting f
      by true f =
          waiting f ∙ (ap (λ r. with_plan_of r i n node k) e
          ∙ ap (λ b. cond b k (with_test (admission k.machine.placer plan (Some (rules_of i).decl.cost)) i n node plan k)) w)

  -- one that needn't is admitted
  admits : (plan : Plan) → is_waiting node.state ≡ true → planned i (metric_of i node) node.focus ≡ Ok plan → must_wait (rules_of i).decl.cost (predicted plan) (in_force i k.machine.placer k.shown) ≡ false
      → with_node i n k ≡ with_test (admission k.machine.placer plan (Some (rules_of i).decl.cost)) i n node plan k
  admits plan f e w =
      waiting f ∙ (ap (λ r. with_plan_of r i n node k) e
      ∙ ap (λ b. cond b k (with_test (admission k.machine.placer plan (Some (rules_of i).decl.cost)) i n node plan k)) w)

-- ---- a node_candidate

-- nothing is kept of an admission that failed
pub kept_same : (ws : List CheckedWish) (old new : StateTable) → new ≡ record old { machine = new.machine; pairs = new.pairs; live = new.live; room = new.room } → new.machine.state ≡ old.machine.state → new.pairs ≡ old.pairs → kept_of ws new ≡ kept_of ws old
kept_same ws old new e machine pairs = ap (kept_of ws) e ∙ ap₂ (λ (m : Instrumented) (ks : List SampledPair). record (kept_of ws old) { machine = m; shown = shown_in ks }) machine pairs

module _ (i : Inputs) (old : StateTable) (plan : Plan) (c : Candidate) (x : IsNodeCandidate i old.search.nodes plan c) where
  pub planned_by : (o : Option PlanFault) → c.fault ≡ o → IsPlanOrFault i (metric_of i x.node) (x.node).focus o plan
  planned_by o e =
      subst (λ f. IsPlanOrFault i (metric_of i x.node) f o plan) (x.pair).focus_is
      (subst (λ m. IsPlanOrFault i m c.focus o plan) (x.pair).metric_is (subst (λ y. IsPlanOrFault i c.metric c.focus y plan) e (x.candidate).planned))

  -- the costs in force don't hold it
  abbrev pub NeedsNotWait : SessionState → Type 0
  NeedsNotWait k = c.fault ≡ None → must_wait (rules_of i).decl.cost (predicted plan) (in_force i k.machine.placer k.shown) ≡ false

  module _ (ws : List CheckedWish) (f : is_waiting (x.node).state ≡ true) (w : NeedsNotWait (kept_of ws old)) where
    -- it gets no instrument
    pub node_failed : (failure : Failure) → IsFailure old.machine.state.placer plan c.fault (Some (rules_of i).decl.cost) failure → with_node i x.number (kept_of ws old) ≡ barred (bar_cause_of failure) x.number (kept_of ws old)
    node_failed (NoPlan fault) e =
        waiting i x.number (kept_of ws old) x.node x.stands f ∙ ap (λ r. with_plan_of r i x.number x.node (kept_of ws old)) (planned_by (Some fault) e)
    node_failed (Refused refused) e =
        admits i x.number (kept_of ws old) x.node x.stands plan f (planned_by None e.0).0 (w e.0) ∙ ap (λ r. with_test r i x.number x.node plan (kept_of ws old)) e.1

    -- it gets one
    pub node_tested : (new : StateTable) (number : InstrumentNo) → IsInstrumented i plan c (Some (rules_of i).decl.cost) old new number → new ≡ record old { machine = new.machine; pairs = new.pairs; live = new.live; room = new.room }
        → (search : SearchData) → search ≡ with_state x.number Active old.search → kept_of ws (record new { search = search }) ≡ with_node i x.number (kept_of ws old)
    node_tested new number s e search is =
        let k = kept_of ws old in
        let named : number ≡ record { n = k.machine.placer.count } = ap (λ (n : ℕ). let y : InstrumentNo = record { n = n } in y) s.number_is in
        let next : newly_shown c number ≡ tests_next i x.number x.node k =
        ap (λ (o : Option ℕ). let y : MetricFocusPair = record { instrument = number; node = o; metric = c.metric; focus = c.focus; armed = None; from = 0 } in y) (x.pair).node_is
        ∙ (ap₂ (λ (y : InstrumentNo) (m : ℕ). let z : MetricFocusPair = record { instrument = y; node = Some x.number; metric = m; focus = c.focus; armed = None; from = 0 } in z) named (x.pair).metric_is
        ∙ ap (λ g. let y : MetricFocusPair = record { instrument = record { n = k.machine.placer.count }; node = Some x.number; metric = metric_of i x.node; focus = g; armed = None; from = 0 } in y) (x.pair).focus_is) in
        let shown : shown_in new.pairs ≡ k.shown ++ tests_next i x.number x.node k ∷ [] = ap shown_in s.pairs ∙ (map-append (λ (y : SampledPair). y.shown) old.pairs _ ∙ ap (λ (y : MetricFocusPair). k.shown ++ y ∷ []) next) in
        ap (λ (t : StateTable). kept_of ws (record t { search = search })) e
        ∙ (ap (λ v. record k { machine = new.machine.state; shown = shown_in new.pairs; search = v }) is
        ∙ (ap₂ (λ (m : Instrumented) (ss : List MetricFocusPair). record k { machine = m; shown = ss; search = with_state x.number Active old.search }) s.machine shown
        ∙ sym (admits i x.number k x.node x.stands plan f (planned_by None s.planned).0 (w s.planned) ∙ ap (λ r. with_test r i x.number x.node plan k) s.placed)))
