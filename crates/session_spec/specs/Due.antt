-- The work that is due whenever a sample's interval ends.
use Rattle.std.specs.Prelude.{ℕ, ◌+◌, ◌-◌, ◌*◌, ◌/◌, ◌&&◌, if◌then◌else◌, Bool, true, false, Option, Some, None, is_none, List, [], ◌∷◌, ◌++◌, length, map, unwrap_or, Result, Ok, Err}
use Rattle.pn_types.specs.declared.plan.Plan.{Plan}
use Rattle.fold_hist.specs.declared.bin.Bin.{Bin}
use Rattle.mdl_plan.specs.declared.fault.PlanFault.{PlanFault}
use Rattle.rv_mem.specs.Start.{program_of}
use Rattle.rv_exec.specs.Start.{start}
use Rattle.machine.specs.Measures.{measure}
use Rattle.instrument.specs.Placements.{Placements, state_of}
use Rattle.instrument.specs.Scenes.{Arms, Sweeps}
use Rattle.instrument.specs.declared.number.State.{State as Stage}
use Rattle.instrument.specs.declared.number.State.TheVariants.{Placing, Armed, Leaving, Gone}
use Rattle.instrumented.specs.Instrumented.{Instrumented, after_act, is_linked, repeated}
use Rattle.session_spec.specs.declared.data.LatestSample.{LatestSample}
use Rattle.session_spec.specs.declared.data.MetricFocusPair.{MetricFocusPair}
use Rattle.session_spec.specs.Inputs.{Inputs, harts_of_focus, planned}
use Rattle.session_spec.specs.States.{SessionState}

-- ---- samples

abbrev pub is_armed_state : Stage → Bool
is_armed_state Armed = true
is_armed_state Placing = false
is_armed_state Leaving = false
is_armed_state Gone = false

abbrev pub is_armed : Placements → MetricFocusPair → Bool
is_armed p s = is_armed_state (state_of p s.instrument.n)

-- What a plan measures on the program's own run from time b to time c, for these harts, where it was armed at time a.
abbrev pub measure_at : Inputs → List ℕ → Plan → List ℕ → ℕ → ℕ → ℕ → ℕ
measure_at i owns plan harts a b c = measure (program_of i.image) plan harts a b c owns (start i.image i.settings.harts)

-- what the plan of a pair measures
abbrev pub measure_by : Result Plan PlanFault → Inputs → List ℕ → ℕ → ℕ → ℕ → List ℕ → ℕ
measure_by (Err fault) i harts a b c owns = 0
measure_by (Ok plan) i harts a b c owns = measure_at i owns plan harts a b c

unfoldable pub measured : Inputs → List ℕ → MetricFocusPair → ℕ → ℕ
measured i owns s time = measure_by (planned i s.metric s.focus) i (harts_of_focus i s.focus) (unwrap_or s.armed 0) s.from time owns

-- the sample of an instrument from its last one, or its arming, to now
abbrev pub sample_of : Inputs → List ℕ → ℕ → MetricFocusPair → Bin
sample_of i owns time s = record { from = s.from; to = time; sum = measured i owns s time }

-- one sample more for each that is armed
abbrev pub recorded_with : Inputs → Placements → List ℕ → ℕ → List MetricFocusPair → List (List Bin) → List (List Bin)
recorded_with i p owns time [] rs = rs
recorded_with i p owns time (s ∷ ss) [] = []
recorded_with i p owns time (s ∷ ss) (r ∷ rs) =
    (if is_armed p s then r ++ sample_of i owns time s ∷ [] else r) ∷ recorded_with i p owns time ss rs

-- the place after an instrument's, where only those that were wished have places
abbrev pub place_behind : Option ℕ → ℕ → ℕ
place_behind None n = n + 1
place_behind (Some node) n = n

-- the same samples of those that were wished as a list, the first of which has place n
abbrev pub latest_from : ℕ → Inputs → Placements → List ℕ → ℕ → List MetricFocusPair → List LatestSample
latest_from n i p owns time [] = []
latest_from n i p owns time (s ∷ ss) =
    (if is_none s.node && is_armed p s then record { shown = n; from = s.from; to = time; sum = measured i owns s time } ∷ [] else [])
    ++ latest_from (place_behind s.node n) i p owns time ss

-- each that is armed was sampled to now
abbrev pub sampled_to : Placements → ℕ → MetricFocusPair → MetricFocusPair
sampled_to p time s = if is_armed p s then record s { from = time } else s

-- What patches cost in an interval of a number of ticks: the turns that weren't ticks, per 1,000 ticks.
abbrev pub observed_cost : ℕ → ℕ → ℕ
observed_cost idle ticks = idle * 1000 / ticks

-- All armed instruments are sampled.
unfoldable pub with_samples : SessionState → SessionState
with_samples k = record k {
  shown = map (sampled_to k.machine.placer k.time) k.shown;
  samples = k.samples + 1;
  last = k.time;
  idle = 0;
  observed = observed_cost k.idle (k.time - k.last);
}

-- ---- what is freed

-- Each Free before which no unlinking of its point stands is done.
unfoldable pub with_frees : SessionState → SessionState
with_frees k = record k { machine = repeated (length k.machine.placer.book.agenda) Sweeps k.machine }

-- ---- what is armed

abbrev pub is_placing : Stage → Bool
is_placing Placing = true
is_placing Armed = false
is_placing Leaving = false
is_placing Gone = false

-- it is being placed, and all its sites are linked
abbrev pub is_ready : Instrumented → MetricFocusPair → Bool
is_ready m s = is_placing (state_of m.placer s.instrument.n) && is_linked m s.instrument.n

abbrev pub armed_at : ℕ → Instrumented → MetricFocusPair → MetricFocusPair
armed_at time m s = if is_ready m s then record s { armed = Some time; from = time } else s

abbrev pub machine_armed : Instrumented → MetricFocusPair → Instrumented
machine_armed m s = if is_ready m s then after_act (Arms s.instrument.n) m else m

-- those that are ready are armed, one after another
abbrev pub arm_all : Instrumented → List MetricFocusPair → Instrumented
arm_all m [] = m
arm_all m (s ∷ ss) = arm_all (machine_armed m s) ss

abbrev pub all_armed : ℕ → Instrumented → List MetricFocusPair → List MetricFocusPair
all_armed time m [] = []
all_armed time m (s ∷ ss) = armed_at time m s ∷ all_armed time (machine_armed m s) ss

-- Each instrument that is ready is armed.
unfoldable pub with_arms : SessionState → SessionState
with_arms k = record k { machine = arm_all k.machine k.shown; shown = all_armed k.time k.machine k.shown }

-- ---- when work is due next

-- the least multiple of the width above the time
abbrev pub next_due : ℕ → ℕ → ℕ
next_due width time = (time / width + 1) * width

unfoldable pub with_next : ℕ → SessionState → SessionState
with_next width k = record k { due = next_due width k.time; worked = true }
