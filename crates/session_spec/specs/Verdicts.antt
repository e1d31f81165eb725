-- What the samples of a due work tell the search.
use Rattle.std.specs.Prelude.{ℕ, ◌-◌, ◌&&◌, ◌==◌, not, if◌then◌else◌, Bool, Option, Some, None, List, [], ◌∷◌, ◌++◌, drop, filter, find, length, take}
use Rattle.std.specs.List.{list_any}
use Rattle.instrument.specs.Placements.{Placements, is_leaving, state_of}
use Rattle.instrument.specs.Scenes.{Drops}
use Rattle.instrumented.specs.Instrumented.{after_act}
use Rattle.w3_search.specs.declared.node.NodeSample.{NodeSample}
use Rattle.w3_search.specs.Nodes.{is_same_number}
use Rattle.w3_search.specs.Steps.{search_step, with_end}
use Rattle.session_spec.specs.declared.data.MetricFocusPair.{MetricFocusPair}
use Rattle.session_spec.specs.Inputs.{Inputs, harts_of_focus}
use Rattle.session_spec.specs.States.{SessionState}
use Rattle.session_spec.specs.Due.{is_armed, measured}

-- ---- samples of nodes

-- the ticks from time b to time c whose harts are among these
abbrev pub ticks_in : List ℕ → List ℕ → ℕ → ℕ → ℕ
ticks_in owns harts b c = length (filter (λ h. list_any (λ x. x == h) harts) (take (c - b) (drop b owns)))

-- the sample of the node that an instrument tests, from its last one, or its arming, to now
abbrev pub node_sample : Inputs → List ℕ → ℕ → ℕ → MetricFocusPair → NodeSample
node_sample i owns time n s =
    record { node = n; from = s.from; value = measured i owns s time; ticks = ticks_in owns (harts_of_focus i s.focus) s.from time }

abbrev pub node_samples_by : Option ℕ → Inputs → Placements → List ℕ → ℕ → MetricFocusPair → List NodeSample
node_samples_by None i p owns time s = []
node_samples_by (Some n) i p owns time s = if is_armed p s then node_sample i owns time n s ∷ [] else []

-- one for each armed instrument of the search
abbrev pub node_samples : Inputs → Placements → List ℕ → ℕ → List MetricFocusPair → List NodeSample
node_samples i p owns time [] = []
node_samples i p owns time (s ∷ ss) = node_samples_by s.node i p owns time s ++ node_samples i p owns time ss

-- ---- verdicts

-- An instrument tests a node from its admission to its dropping.
abbrev pub tests : Placements → ℕ → MetricFocusPair → Bool
tests p n s = is_same_number s.node (Some n) && not (is_leaving (state_of p s.instrument.n))

abbrev pub tester_of : Placements → ℕ → List MetricFocusPair → Option MetricFocusPair
tester_of p n ss = find (tests p n) ss

abbrev pub without_tester : Option MetricFocusPair → SessionState → SessionState
without_tester None k = k
without_tester (Some s) k = record k { machine = after_act (Drops s.instrument.n) k.machine }

-- the instruments of these nodes are dropped
abbrev pub without_tests : List ℕ → SessionState → SessionState
without_tests [] k = k
without_tests (n ∷ ns) k = without_tests ns (without_tester (tester_of k.machine.placer n k.shown) k)

-- The search's step with these samples. The instruments of the nodes whose test it ended are dropped.
unfoldable pub with_verdicts : List NodeSample → SessionState → SessionState
with_verdicts samples k =
    without_tests (search_step k.time samples k.search).drops (record k { search = search_step k.time samples k.search })

-- At the end of the search no node waits or is under test any more.
unfoldable pub with_search_end : SessionState → SessionState
with_search_end k = record k { search = with_end k.search }
