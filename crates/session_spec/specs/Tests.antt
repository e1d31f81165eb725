-- The search takes nodes that wait: each is tested by an instrument from now on.
use Rattle.std.specs.Prelude.{ℕ, ◌+◌, ◌&&◌, not, nat_le, nat_lt, if◌then◌else◌, Bool, true, false, is_some, Option, Some, None, Result, Ok, Err, List, [], ◌∷◌, ◌++◌, length, slice_get, take}
use Rattle.pn_types.specs.declared.pick.BarCause.{BarCause}
use Rattle.pn_types.specs.declared.plan.Plan.{Plan}
use Rattle.prim_code.specs.Counts.{predicted}
use Rattle.mdl_plan.specs.declared.fault.PlanFault.{PlanFault}
use Rattle.instrument.specs.Placements.{Placements, admission, state_of}
use Rattle.instrument.specs.Scenes.{Admits}
use Rattle.instrument.specs.declared.number.Refused.{Refused}
use Rattle.instrument.specs.declared.number.State.{State as Stage}
use Rattle.instrument.specs.declared.number.State.TheVariants.{Placing, Armed, Leaving, Gone}
use Rattle.instrumented.specs.Instrumented.{after_act}
use Rattle.w3_search.specs.declared.node.Node.{Node}
use Rattle.w3_search.specs.declared.node.NodeState.TheVariants.{Active, Barred}
use Rattle.w3_search.specs.Nodes.{is_waiting, waiting_of}
use Rattle.w3_search.specs.Steps.{with_state}
use Rattle.session_spec.specs.declared.data.MetricFocusPair.{MetricFocusPair}
use Rattle.session_spec.specs.Inputs.{Inputs, planned}
use Rattle.session_spec.specs.Searches.{bar_of_plan, bar_of_refusal, metric_of, rules_of}
use Rattle.session_spec.specs.States.{SessionState}

-- ---- what the tests cost

abbrev pub is_gone : Stage → Bool
is_gone Gone = true
is_gone Placing = false
is_gone Armed = false
is_gone Leaving = false

-- an instrument of the search that isn't gone
abbrev pub counts : Placements → MetricFocusPair → Bool
counts p s = is_some s.node && not (is_gone (state_of p s.instrument.n))

abbrev pub words_by : Result Plan PlanFault → ℕ
words_by (Err fault) = 0
words_by (Ok plan) = predicted plan

-- the predicted cost of an instrument, in words
unfoldable pub words_of : Inputs → MetricFocusPair → ℕ
words_of i s = words_by (planned i s.metric s.focus)

-- The predicted costs of the search's instruments that aren't gone.
abbrev pub in_force : Inputs → Placements → List MetricFocusPair → ℕ
in_force i p [] = 0
in_force i p (s ∷ ss) = (if counts p s then words_of i s else 0) + in_force i p ss

-- ---- a node that waits is taken

-- by this cause it can't be tested
abbrev pub barred : Option BarCause → ℕ → SessionState → SessionState
barred None n k = k
barred (Some cause) n k = record k { search = with_state n (Barred cause) k.search }

-- the instrument of the next number tests it
abbrev pub tests_next : Inputs → ℕ → Node → SessionState → MetricFocusPair
tests_next i n node k = record {
  instrument = record { n = k.machine.placer.count };
  node = Some n;
  metric = metric_of i node;
  focus = node.focus;
  armed = None;
  from = 0;
}

abbrev pub tested : Inputs → ℕ → Node → Plan → SessionState → SessionState
tested i n node plan k = record k {
  machine = after_act (Admits plan (Some (rules_of i).decl.cost)) k.machine;
  search = with_state n Active k.search;
  shown = k.shown ++ tests_next i n node k ∷ [];
}

abbrev pub with_test : Result Placements Refused → Inputs → ℕ → Node → Plan → SessionState → SessionState
with_test (Err refused) i n node plan k = barred (bar_of_refusal refused) n k
with_test (Ok placer) i n node plan k = tested i n node plan k

-- It keeps waiting where its cost isn't above the limit, but its cost together with the costs in force is.
abbrev pub must_wait : ℕ → ℕ → ℕ → Bool
must_wait limit words force = nat_le words limit && nat_lt limit (force + words)

abbrev pub with_cost : Inputs → ℕ → Node → Plan → SessionState → SessionState
with_cost i n node plan k =
    if must_wait (rules_of i).decl.cost (predicted plan) (in_force i k.machine.placer k.shown) then k
    else with_test (admission k.machine.placer plan (Some (rules_of i).decl.cost)) i n node plan k

abbrev pub with_plan_of : Result Plan PlanFault → Inputs → ℕ → Node → SessionState → SessionState
with_plan_of (Err fault) i n node k = barred (Some (bar_of_plan fault)) n k
with_plan_of (Ok plan) i n node k = with_cost i n node plan k

-- only a node that waits is taken
abbrev pub with_waiting : Option Node → Inputs → ℕ → SessionState → SessionState
with_waiting None i n k = k
with_waiting (Some node) i n k = if is_waiting node.state then with_plan_of (planned i (metric_of i node) node.focus) i n node k else k

-- node n is taken
unfoldable pub with_node : Inputs → ℕ → SessionState → SessionState
with_node i n k = with_waiting (slice_get k.search.nodes n) i n k

-- ---- several

-- there are as many instruments that aren't gone as are allowed
abbrev pub is_full : Placements → Bool
is_full p = nat_le p.limit (length p.instruments)

-- one after another, as long as another instrument is allowed
abbrev pub with_nodes : Inputs → List ℕ → SessionState → SessionState
with_nodes i [] k = k
with_nodes i (n ∷ ns) k = if is_full k.machine.placer then k else with_nodes i ns (with_node i n k)

-- how many are taken at once, at most
abbrev pub taken_at_once : ℕ
taken_at_once = 64

-- None is taken where the observed cost is above its limit.
unfoldable pub with_tests : Inputs → SessionState → SessionState
with_tests i k =
    if nat_lt (rules_of i).decl.observed k.observed then k
    else with_nodes i (take taken_at_once (waiting_of k.search.nodes)) k
