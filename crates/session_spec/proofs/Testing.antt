-- Nodes that are taken, and tests that end, keep what is known of how a session's state came about.
use Rattle.std.proofs.Common.{◌≡◌, ℕ, List, [], ◌∷◌, Option, Some, None, Ok, Err, refl, sym, ap, ◌∙◌, subst}
use Rattle.std.specs.Prelude.{Bool, true, false, cond, nat_lt, not, slice_get, take, ◌⊎◌, Result}
use Rattle.std.proofs.lemmas.Bool.{and_parts}
use Rattle.pn_types.specs.declared.pick.BarCause.{BarCause}
use Rattle.pn_types.specs.declared.plan.Plan.{Plan}
use Rattle.prim_code.specs.Counts.{predicted}
use Rattle.mdl_plan.specs.declared.fault.PlanFault.{PlanFault}
use Rattle.machine.proofs.Lists.{find_gives}
use Rattle.instrument.specs.Placements.{Placements, admission, is_leaving, state_of}
use Rattle.instrument.specs.declared.number.Refused.{Refused}
use Rattle.instrument.specs.declared.number.State.TheVariants.{Armed, Placing}
use Rattle.w3_search.specs.declared.node.Node.{Node}
use Rattle.w3_search.specs.declared.node.NodeSample.{NodeSample}
use Rattle.w3_search.specs.Nodes.{is_same_number, is_waiting, waiting_of}
use Rattle.w3_search.specs.Steps.{search_step}
use Rattle.session_spec.specs.declared.data.MetricFocusPair.{MetricFocusPair}
use Rattle.session_spec.specs.Inputs.{Inputs, planned}
use Rattle.session_spec.specs.Searches.{bar_of_plan, bar_of_refusal, metric_of, rules_of}
use Rattle.session_spec.specs.States.{SessionState}
use Rattle.session_spec.specs.Tests.{barred, in_force, is_full, must_wait, taken_at_once, with_cost, with_node, with_nodes, with_plan_of, with_test, with_tests, with_waiting}
use Rattle.session_spec.specs.Verdicts.{tester_of, tests, with_verdicts, without_tester, without_tests}
use Rattle.session_spec.specs.Ties.{IsTied}
use Rattle.session_spec.specs.Plans.{ArePlansGood}
use Rattle.session_spec.specs.Readings.{lasts_with}
use Rattle.session_spec.proofs.Admitting.{admits_moved, drops_moved, none_shown, same_moved}
use Rattle.session_spec.proofs.Wishing.{IsAtOnce, Moves, on, once_on, stands}

-- ---- a node that is taken

module _ (i : Inputs) (n : ℕ) (node : Node) (k : SessionState) where
  barred_once : (o : Option BarCause) → IsAtOnce k (barred o n k)
  barred_once None = record { time = refl; last = refl }
  barred_once (Some cause) = record { time = refl; last = refl }

  test_once : (r : Result Placements Refused) (plan : Plan) → IsAtOnce k (with_test r i n node plan k)
  test_once (Err refused) plan = barred_once (bar_of_refusal refused)
  test_once (Ok q) plan = record { time = refl; last = refl }

  cost_once : (plan : Plan) → IsAtOnce k (with_cost i n node plan k)
  cost_once plan = by (must_wait (rules_of i).decl.cost (predicted plan) (in_force i k.machine.placer k.shown))
    where
      by : (b : Bool) → IsAtOnce k (cond b k (with_test (admission k.machine.placer plan (Some (rules_of i).decl.cost)) i n node plan k))
      by true = record { time = refl; last = refl }
      by false = test_once (admission k.machine.placer plan (Some (rules_of i).decl.cost)) plan

  plan_once : (r : Result Plan PlanFault) → IsAtOnce k (with_plan_of r i n node k)
  plan_once (Err fault) = barred_once (Some (bar_of_plan fault))
  plan_once (Ok plan) = cost_once plan

  waiting_once : IsAtOnce k (with_waiting (Some node) i n k)
  waiting_once = by (is_waiting node.state)
    where
      by : (b : Bool) → IsAtOnce k (cond b (with_plan_of (planned i (metric_of i node) node.focus) i n node k) k)
      by true = plan_once (planned i (metric_of i node) node.focus)
      by false = record { time = refl; last = refl }

pub node_once : (i : Inputs) (n : ℕ) (k : SessionState) → IsAtOnce k (with_node i n k)
unfolding with_node
node_once i n k = by (slice_get k.search.nodes n)
  where
    by : (o : Option Node) → IsAtOnce k (with_waiting o i n k)
    by None = record { time = refl; last = refl }
    by (Some node) = waiting_once i n node k

nodes_once : (i : Inputs) (ns : List ℕ) (k : SessionState) → IsAtOnce k (with_nodes i ns k)
nodes_once i [] k = record { time = refl; last = refl }
nodes_once i (n ∷ ns) k = by (is_full k.machine.placer) (nodes_once i ns (with_node i n k))
  where
    by : (b : Bool) → IsAtOnce (with_node i n k) (with_nodes i ns (with_node i n k)) → IsAtOnce k (cond b k (with_nodes i ns (with_node i n k)))
    by true e = record { time = refl; last = refl }
    by false e = once_on k (with_node i n k) (with_nodes i ns (with_node i n k)) (node_once i n k) e

pub tests_once : (i : Inputs) (k : SessionState) → IsAtOnce k (with_tests i k)
unfolding with_tests
tests_once i k = by (nat_lt (rules_of i).decl.observed k.observed)
  where
    by : (b : Bool) → IsAtOnce k (cond b k (with_nodes i (take taken_at_once (waiting_of k.search.nodes)) k))
    by true = record { time = refl; last = refl }
    by false = nodes_once i (take taken_at_once (waiting_of k.search.nodes)) k

module _ (i : Inputs) (good : ArePlansGood i) (own : List ℕ) where
  module _ (lasts : List ℕ) (n : ℕ) (k : SessionState) (t : IsTied i k.machine own k.shown lasts) where
    barred_moved : (o : Option BarCause) → Moves i own lasts k (barred o n k)
    barred_moved None = same_moved i k.machine own k.shown lasts t
    barred_moved (Some cause) = same_moved i k.machine own k.shown lasts t

    module _ (node : Node) where
      test_moved : (plan : Plan) → planned i (metric_of i node) node.focus ≡ Ok plan → (r : Result Placements Refused)
          → admission k.machine.placer plan (Some (rules_of i).decl.cost) ≡ r → Moves i own lasts k (with_test r i n node plan k)
      test_moved plan e (Err refused) a = barred_moved (bar_of_refusal refused)
      test_moved plan e (Ok q) a =
          admits_moved i k.machine own k.shown lasts t plan (Some (rules_of i).decl.cost) (Some n) (metric_of i node) node.focus e (good (metric_of i node) node.focus plan e) q a

      cost_moved : (plan : Plan) → planned i (metric_of i node) node.focus ≡ Ok plan → Moves i own lasts k (with_cost i n node plan k)
      cost_moved plan e = by (must_wait (rules_of i).decl.cost (predicted plan) (in_force i k.machine.placer k.shown))
        where
          by : (b : Bool) → Moves i own lasts k (cond b k (with_test (admission k.machine.placer plan (Some (rules_of i).decl.cost)) i n node plan k))
          by true = same_moved i k.machine own k.shown lasts t
          by false = test_moved plan e (admission k.machine.placer plan (Some (rules_of i).decl.cost)) refl

      plan_moved : (r : Result Plan PlanFault) → planned i (metric_of i node) node.focus ≡ r → Moves i own lasts k (with_plan_of r i n node k)
      plan_moved (Err fault) e = barred_moved (Some (bar_of_plan fault))
      plan_moved (Ok plan) e = cost_moved plan e

      waiting_moved : Moves i own lasts k (with_waiting (Some node) i n k)
      waiting_moved = by (is_waiting node.state)
        where
          by : (b : Bool) → Moves i own lasts k (cond b (with_plan_of (planned i (metric_of i node) node.focus) i n node k) k)
          by true = plan_moved (planned i (metric_of i node) node.focus) refl
          by false = same_moved i k.machine own k.shown lasts t

    pub node_moved : Moves i own lasts k (with_node i n k)
    unfolding with_node
    node_moved = by (slice_get k.search.nodes n)
      where
        by : (o : Option Node) → Moves i own lasts k (with_waiting o i n k)
        by None = same_moved i k.machine own k.shown lasts t
        by (Some node) = waiting_moved node

  nodes_moved : (ns : List ℕ) (lasts : List ℕ) (k : SessionState) → IsTied i k.machine own k.shown lasts → Moves i own lasts k (with_nodes i ns k)
  nodes_moved [] lasts k t = same_moved i k.machine own k.shown lasts t
  nodes_moved (n ∷ ns) lasts k t = by (is_full k.machine.placer) (λ m d u. nodes_moved ns m d u)
    where
      by : (b : Bool) → ((m : List ℕ) (d : SessionState) → IsTied i d.machine own d.shown m → Moves i own m d (with_nodes i ns d))
          → Moves i own lasts k (cond b k (with_nodes i ns (with_node i n k)))
      by true ih = same_moved i k.machine own k.shown lasts t
      by false ih =
          let one = node_moved lasts n k t in
          on i own lasts k (with_node i n k) (with_nodes i ns (with_node i n k)) one (ih (lasts_with (with_node i n k).shown lasts) (with_node i n k) one.tied)

  pub tests_moved : (lasts : List ℕ) (k : SessionState) → IsTied i k.machine own k.shown lasts → Moves i own lasts k (with_tests i k)
  unfolding with_tests
  tests_moved lasts k t = by (nat_lt (rules_of i).decl.observed k.observed)
    where
      by : (b : Bool) → Moves i own lasts k (cond b k (with_nodes i (take taken_at_once (waiting_of k.search.nodes)) k))
      by true = same_moved i k.machine own k.shown lasts t
      by false = nodes_moved (take taken_at_once (waiting_of k.search.nodes)) lasts k t

-- ---- a test that ends

-- an instrument that tests a node isn't leaving
pub tester_stands : (p : Placements) (n : ℕ) (s : MetricFocusPair) → tests p n s ≡ true → (state_of p s.instrument.n ≡ Placing) ⊎ (state_of p s.instrument.n ≡ Armed)
tester_stands p n s e = stands (state_of p s.instrument.n) (and_parts (is_same_number s.node (Some n)) (not (is_leaving (state_of p s.instrument.n))) e).1

-- After verdicts the same is shown, with what was read of it last.
pub record IsJudged (i : Inputs) (own lasts : List ℕ) (k d : SessionState) : Type 0 where
  pub moved : Moves i own lasts k d
  pub once : IsAtOnce k d
  pub shown : d.shown ≡ k.shown

module _ (i : Inputs) (own lasts : List ℕ) where
  without_one : (n : ℕ) (k : SessionState) → IsTied i k.machine own k.shown lasts → (o : Option MetricFocusPair) → tester_of k.machine.placer n k.shown ≡ o → IsJudged i own lasts k (without_tester o k)
  without_one n k t None e = record { moved = same_moved i k.machine own k.shown lasts t; once = record { time = refl; last = refl }; shown = refl }
  without_one n k t (Some s) e = record {
    moved = drops_moved i k.machine own k.shown lasts t s.instrument.n (tester_stands k.machine.placer n s (find_gives (tests k.machine.placer n) k.shown s e).1);
    once = record { time = refl; last = refl };
    shown = refl;
  }

  -- what was read of it last
  pub judged_tied : (k d : SessionState) → IsTied i k.machine own k.shown lasts → IsJudged i own lasts k d → IsTied i d.machine own d.shown lasts
  judged_tied k d t j = subst (IsTied i d.machine own d.shown) (ap (λ ss. lasts_with ss lasts) j.shown ∙ none_shown i t.acts k.shown lasts t.shown) j.moved.tied

  without_all : (ns : List ℕ) (k : SessionState) → IsTied i k.machine own k.shown lasts → IsJudged i own lasts k (without_tests ns k)
  without_all [] k t = record { moved = same_moved i k.machine own k.shown lasts t; once = record { time = refl; last = refl }; shown = refl }
  without_all (n ∷ ns) k t =
      let d = without_tester (tester_of k.machine.placer n k.shown) k in
      let one = without_one n k t (tester_of k.machine.placer n k.shown) refl in
      let u = judged_tied k d t one in
      let rest = without_all ns d u in
      record {
        moved = on i own lasts k d (without_tests ns d) one.moved (subst (λ m. Moves i own m d (without_tests ns d)) (sym (none_shown i u.acts d.shown lasts u.shown)) rest.moved);
        once = once_on k d (without_tests ns d) one.once rest.once;
        shown = rest.shown ∙ one.shown;
      }

  pub verdicts_judged : (samples : List NodeSample) (k : SessionState) → IsTied i k.machine own k.shown lasts → IsJudged i own lasts k (with_verdicts samples k)
  unfolding with_verdicts
  verdicts_judged samples k t =
      let j = without_all (search_step k.time samples k.search).drops (record k { search = search_step k.time samples k.search }) t in
      record { moved = j.moved; once = record { time = j.once.time; last = j.once.last }; shown = j.shown }
