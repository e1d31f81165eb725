-- What taking nodes leaves as it is, and which numbers wait.
use Rattle.std.proofs.Common.{◌≡◌, ℕ, ◌<◌, List, [], ◌∷◌, Option, Some, None, Ok, Err, refl, ap, ◌∙◌, length}
use Rattle.std.specs.Prelude.{Bool, true, false, cond, nat_lt, slice_get, take, Result}
use Rattle.pn_types.specs.declared.pick.BarCause.{BarCause}
use Rattle.pn_types.specs.declared.plan.Plan.{Plan}
use Rattle.prim_code.specs.Counts.{predicted}
use Rattle.mdl_plan.specs.declared.fault.PlanFault.{PlanFault}
use Rattle.machine.specs.Cores.{In}
use Rattle.instrument.specs.Placements.{Placements, admission}
use Rattle.instrument.specs.declared.number.Refused.{Refused}
use Rattle.w3_search.specs.declared.node.Node.{Node}
use Rattle.w3_search.specs.Nodes.{is_waiting, waiting_of}
use Rattle.w3_search.proofs.Numbering.{numbers_within}
use Rattle.session_spec.specs.Inputs.{Inputs, planned}
use Rattle.session_spec.specs.Searches.{bar_of_plan, bar_of_refusal, metric_of, rules_of}
use Rattle.session_spec.specs.States.{SessionState}
use Rattle.session_spec.specs.Tests.{barred, in_force, is_full, must_wait, taken_at_once, with_cost, with_node, with_nodes, with_plan_of, with_test, with_tests, with_waiting}
use Rattle.session_spec.proofs.Lists.{all_of, in_take}

-- ---- the numbers that wait

-- they are numbers of nodes
pub waiting_below : (ns : List Node) (n : ℕ) → In n (waiting_of ns) → n < length ns
waiting_below ns n h = all_of (λ m. m < length ns) (waiting_of ns) n (numbers_within (λ x. is_waiting x.state) ns) h

-- and so are the first of them
pub taken_below : (k : ℕ) (ns : List Node) (n : ℕ) → In n (take k (waiting_of ns)) → n < length ns
taken_below k ns n h = waiting_below ns n (in_take k (waiting_of ns) n h)

-- ---- nodes that are taken

-- all but the machine, the search and what is shown stays, and so do the rules of the search
pub record IsRest (k d : SessionState) : Type 0 where
  pub is : d ≡ record k { machine = d.machine; search = d.search; shown = d.shown }
  pub rules : (d.search).rules ≡ (k.search).rules

rest_on : (k d e : SessionState) → IsRest k d → IsRest d e → IsRest k e
rest_on k d e a b = record {
  is = b.is ∙ ap (λ (x : SessionState). record x { machine = e.machine; search = e.search; shown = e.shown }) a.is;
  rules = b.rules ∙ a.rules;
}

module _ (i : Inputs) (n : ℕ) (node : Node) (k : SessionState) where
  barred_rest : (o : Option BarCause) → IsRest k (barred o n k)
  barred_rest None = record { is = refl; rules = refl }
  barred_rest (Some cause) = record { is = refl; rules = refl }

  test_rest : (r : Result Placements Refused) (plan : Plan) → IsRest k (with_test r i n node plan k)
  test_rest (Err refused) plan = barred_rest (bar_of_refusal refused)
  test_rest (Ok q) plan = record { is = refl; rules = refl }

  cost_rest : (plan : Plan) → IsRest k (with_cost i n node plan k)
  cost_rest plan = by (must_wait (rules_of i).decl.cost (predicted plan) (in_force i k.machine.placer k.shown))
    where
      by : (b : Bool) → IsRest k (cond b k (with_test (admission k.machine.placer plan (Some (rules_of i).decl.cost)) i n node plan k))
      by true = record { is = refl; rules = refl }
      by false = test_rest (admission k.machine.placer plan (Some (rules_of i).decl.cost)) plan

  plan_rest : (r : Result Plan PlanFault) → IsRest k (with_plan_of r i n node k)
  plan_rest (Err fault) = barred_rest (Some (bar_of_plan fault))
  plan_rest (Ok plan) = cost_rest plan

  waiting_rest : IsRest k (with_waiting (Some node) i n k)
  waiting_rest = by (is_waiting node.state)
    where
      by : (b : Bool) → IsRest k (cond b (with_plan_of (planned i (metric_of i node) node.focus) i n node k) k)
      by true = plan_rest (planned i (metric_of i node) node.focus)
      by false = record { is = refl; rules = refl }

pub node_rest : (i : Inputs) (n : ℕ) (k : SessionState) → IsRest k (with_node i n k)
unfolding with_node
node_rest i n k = by (slice_get k.search.nodes n)
  where
    by : (o : Option Node) → IsRest k (with_waiting o i n k)
    by None = record { is = refl; rules = refl }
    by (Some node) = waiting_rest i n node k

pub nodes_rest : (i : Inputs) (ns : List ℕ) (k : SessionState) → IsRest k (with_nodes i ns k)
nodes_rest i [] k = record { is = refl; rules = refl }
nodes_rest i (n ∷ ns) k = by (is_full k.machine.placer) (nodes_rest i ns (with_node i n k))
  where
    by : (b : Bool) → IsRest (with_node i n k) (with_nodes i ns (with_node i n k)) → IsRest k (cond b k (with_nodes i ns (with_node i n k)))
    by true e = record { is = refl; rules = refl }
    by false e = rest_on k (with_node i n k) (with_nodes i ns (with_node i n k)) (node_rest i n k) e

pub tests_rest : (i : Inputs) (k : SessionState) → IsRest k (with_tests i k)
unfolding with_tests
tests_rest i k = by (nat_lt (rules_of i).decl.observed k.observed)
  where
    by : (b : Bool) → IsRest k (cond b k (with_nodes i (take taken_at_once (waiting_of k.search.nodes)) k))
    by true = record { is = refl; rules = refl }
    by false = nodes_rest i (take taken_at_once (waiting_of k.search.nodes)) k

-- ---- each of its fields that stays

pub tests_is : (i : Inputs) (k : SessionState) → with_tests i k ≡ record k { machine = (with_tests i k).machine; search = (with_tests i k).search; shown = (with_tests i k).shown }
tests_is i k = (tests_rest i k).is

pub tests_refused : (i : Inputs) (k : SessionState) → (with_tests i k).refused ≡ k.refused
tests_refused i k = ap (λ (x : SessionState). x.refused) (tests_is i k)

pub tests_wishes : (i : Inputs) (k : SessionState) → (with_tests i k).wishes ≡ k.wishes
tests_wishes i k = ap (λ (x : SessionState). x.wishes) (tests_is i k)

pub tests_time : (i : Inputs) (k : SessionState) → (with_tests i k).time ≡ k.time
tests_time i k = ap (λ (x : SessionState). x.time) (tests_is i k)

pub tests_due : (i : Inputs) (k : SessionState) → (with_tests i k).due ≡ k.due
tests_due i k = ap (λ (x : SessionState). x.due) (tests_is i k)

pub tests_worked : (i : Inputs) (k : SessionState) → (with_tests i k).worked ≡ k.worked
tests_worked i k = ap (λ (x : SessionState). x.worked) (tests_is i k)

pub tests_samples : (i : Inputs) (k : SessionState) → (with_tests i k).samples ≡ k.samples
tests_samples i k = ap (λ (x : SessionState). x.samples) (tests_is i k)
