-- For proofs alone: what the code of a session reads of instruments, where the definitions measure.
use Rattle.std.specs.Prelude.{◌≡◌, ℕ, ◌≤◌, ◌&&◌, ◌==◌, if◌then◌else◌, true, is_none, Option, Some, None, List, [], ◌∷◌, ◌++◌, filter, length, map, take}
use Rattle.std.specs.List.{range_with_len}
use Rattle.machine.specs.Cores.{In}
use Rattle.instrument.specs.Placements.{Placements}
use Rattle.instrumented.specs.Instrumented.{Instrumented}
use Rattle.w3_search.specs.declared.node.NodeSample.{NodeSample}
use Rattle.session_spec.specs.declared.data.LatestSample.{LatestSample}
use Rattle.session_spec.specs.declared.data.MetricFocusPair.{MetricFocusPair}
use Rattle.session_spec.specs.Inputs.{Inputs, harts_of_focus}
use Rattle.session_spec.specs.States.{State}
use Rattle.session_spec.specs.Due.{is_armed, place_behind}
use Rattle.session_spec.specs.Readings.{sum_read, ticks_between, ticks_of}
use Rattle.session_spec.specs.Ties.{IsTied}

-- ---- samples as they are read

abbrev pub latest_read : ℕ → Inputs → Instrumented → ℕ → List MetricFocusPair → List ℕ → List LatestSample
latest_read n i m time [] lasts = []
latest_read n i m time (s ∷ ss) [] = []
latest_read n i m time (s ∷ ss) (last ∷ lasts) =
    (if is_none s.node && is_armed m.placer s then record { shown = n; from = s.from; to = time; sum = sum_read i m s last } ∷ [] else [])
    ++ latest_read (place_behind s.node n) i m time ss lasts

-- the samples of the nodes under test, where `marks` says how many ticks each hart had when its last sample ended
abbrev pub node_read : Inputs → Instrumented → ℕ → List ℕ → ℕ → MetricFocusPair → ℕ → NodeSample
node_read i m time marks n s last =
    record { node = n; from = s.from; value = sum_read i m s last; ticks = ticks_between (harts_of_focus i s.focus) marks (ticks_of m) }

abbrev pub node_read_by : Option ℕ → Inputs → Instrumented → ℕ → List ℕ → MetricFocusPair → ℕ → List NodeSample
node_read_by None i m time marks s last = []
node_read_by (Some n) i m time marks s last = if is_armed m.placer s then node_read i m time marks n s last ∷ [] else []

abbrev pub nodes_read : Inputs → Instrumented → ℕ → List ℕ → List MetricFocusPair → List ℕ → List NodeSample
nodes_read i m time marks [] lasts = []
nodes_read i m time marks (s ∷ ss) [] = []
nodes_read i m time marks (s ∷ ss) (last ∷ lasts) = node_read_by s.node i m time marks s last ++ nodes_read i m time marks ss lasts

-- ---- how they follow from the state

-- how many of these ticks were hart h's
abbrev pub ticks_by : List ℕ → ℕ → ℕ
ticks_by owns h = length (filter (λ g. g == h) owns)

-- how many ticks each hart had at the last sample
abbrev pub marks_of : Inputs → State → List ℕ
marks_of i s = map (ticks_by (take s.kept.last s.owns)) (range_with_len 0 i.settings.harts)

-- what is armed was sampled last with all others
abbrev pub AreFromLast : Placements → ℕ → List MetricFocusPair → Type 0
AreFromLast p last ss = (s : MetricFocusPair) → In s ss → is_armed p s ≡ true → s.from ≡ last

pub record IsSoundState (i : Inputs) (s : State) (lasts : List ℕ) : Type 0 where
  pub tied : IsTied i s.kept.machine s.owns s.kept.shown lasts
  pub time : s.kept.time ≡ length s.owns
  pub many : length s.recorded ≡ length s.kept.shown
  pub ticks : ticks_of s.kept.machine ≡ map (ticks_by s.owns) (range_with_len 0 i.settings.harts)
  pub last : s.kept.last ≤ s.kept.time
  pub from : AreFromLast s.kept.machine.placer s.kept.last s.kept.shown
