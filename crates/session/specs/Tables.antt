-- For proofs alone: what the code of a session holds.
use Rattle.std.specs.Prelude.{◌≡◌, ℕ, zero, suc, ◌+◌, ◌-◌, ◌<◌, ◌≤◌, ◌^◌, ◌⊎◌, nat_le, nat_lt, if◌then◌else◌, Bool, true, false, Option, Some, None, is_none, List, [], ◌∷◌, ◌++◌, drop, length, map, replicate}
use Rattle.std.specs.List.{AllByRecursion}
use Rattle.mdl_check.specs.declared.checked.CheckedWish.{CheckedWish}
use Rattle.machine.specs.Events.{Event}
use Rattle.machine.specs.Quanta.{ticks_in}
use Rattle.machine.specs.Replays.{owns}
use Rattle.machine.specs.States.{quantum_turns, settling}
use Rattle.instrument.specs.Needs.{Need}
use Rattle.instrument.specs.Scenes.{Hands, Sweeps}
use Rattle.instrumented.specs.Data.{InstrumentedData}
use Rattle.instrumented.specs.Instrumented.{first_instrumented, repeated, after_turns}
use Rattle.resource_tree.specs.Foci.{harts_of_node}
use Rattle.session_spec.specs.declared.data.LatestSample.{LatestSample}
use Rattle.session_spec.specs.declared.data.RefusedWish.{RefusedWish}
use Rattle.session_spec.specs.declared.data.MetricFocusPair.{MetricFocusPair}
use Rattle.session_spec.specs.Inputs.{Inputs}
use Rattle.session_spec.specs.States.{SessionState, State}
use Rattle.session_spec.specs.Reads.{IsSoundState, marks_of}
use Rattle.session_spec.specs.Due.{next_due, observed_cost}
use Rattle.session_spec.specs.Readings.{ticks_of}
use Rattle.session_spec.specs.Admission.{with_admission}
use Rattle.session_spec.specs.Tests.{taken_at_once}
use Rattle.w3_search.specs.declared.node.NodeSample.{NodeSample}
use Rattle.w3_search.specs.Steps.{SearchData, search_step, with_end}
use Rattle.fold_hist.specs.Bins.{Histogram, hist_of}
use Rattle.fold_hist.specs.declared.bin.Bin.{Bin}
use Rattle.pn_types.specs.declared.limits.TheConstants.{MAX_HARTS}
use Rattle.session.specs.NodeCandidates.{cost_of, first_search}
use Rattle.session_pairs.specs.declared.pair.SampledPair.{SampledPair}
use Rattle.session_pairs.specs.SampledPairs.{AreLive, HasFew, HasHarts, dropped_tests, pair_sampled, pairs_armed, pairs_latest, pairs_tests, live_of, machine_of_armed}

-- the machine, the wishes that were refused, the pairs that are or were shown, the places of those that may still be sampled, the
-- search, the latest samples of what was wished and of nodes, how many ticks each hart had then, for how many harts there is room to
-- read them, and for how many more pairs
pub record StateTable : Type 0 where
  pub machine : InstrumentedData
  pub refused : List RefusedWish
  pub pairs : List SampledPair
  pub live : List ℕ
  pub search : SearchData
  pub latest : List LatestSample
  pub tests : List NodeSample
  pub marks : List ℕ
  pub places : ℕ
  pub room : ℕ
  pub time : ℕ
  pub due : ℕ
  pub worked : Bool
  pub samples : ℕ
  pub last : ℕ
  pub idle : ℕ
  pub observed : ℕ

-- ---- what a session goes on from

abbrev pub shown_in : List SampledPair → List MetricFocusPair
shown_in pairs = map (λ (k : SampledPair). k.shown) pairs

-- what was read last of each
abbrev pub lasts_in : List SampledPair → List ℕ
lasts_in pairs = map (λ (k : SampledPair). k.last) pairs

-- with the wishes that are to come
abbrev pub kept_of : List CheckedWish → StateTable → SessionState
kept_of ws t = record {
  machine = t.machine.state;
  wishes = ws;
  refused = t.refused;
  shown = shown_in t.pairs;
  search = t.search;
  time = t.time;
  due = t.due;
  worked = t.worked;
  samples = t.samples;
  last = t.last;
  idle = t.idle;
  observed = t.observed;
}

-- the histogram of a pair with these samples, if it was wished
abbrev pub hist_at : Inputs → MetricFocusPair → List Bin → Option Histogram
hist_at i s r = if is_none s.node then Some (hist_of i.settings.bins r) else None

-- each has the histogram of its samples, if it was wished
abbrev pub AreFolded : Inputs → List SampledPair → List (List Bin) → Type 0
AreFolded i [] [] = Unit {0}
AreFolded i [] (r ∷ rs) = ⊥
AreFolded i (k ∷ ks) [] = ⊥
AreFolded i (k ∷ ks) (r ∷ rs) = (k.hist ≡ hist_at i k.shown r) × AreFolded i ks rs

-- A table is a state's: what a session goes on from is the same, each sample stands in its histogram, and the latest samples and how
-- many ticks each hart had then are the state's.
pub record IsTableOf (i : Inputs) (s : State) (later : List CheckedWish) (t : StateTable) : Type 0 where
  pub kept : kept_of later t ≡ s.kept
  pub hists : AreFolded i t.pairs s.recorded
  pub latest : t.latest ≡ s.latest
  pub marks : t.marks ≡ marks_of i s
  pub sound : IsSoundState i s (lasts_in t.pairs)

-- where nothing was done yet, and work is due at this time
abbrev pub table_at_first : InstrumentedData → SearchData → List ℕ → ℕ → ℕ → StateTable
table_at_first machine search marks places due = record {
  machine = machine;
  refused = [];
  pairs = [];
  live = [];
  search = search;
  latest = [];
  tests = [];
  marks = marks;
  places = places;
  room = 0;
  time = 0;
  due = due;
  worked = false;
  samples = 0;
  last = 0;
  idle = 0;
  observed = 0;
}

-- before any wish is looked at
abbrev pub first_table : Inputs → StateTable
first_table i =
    table_at_first (record { state = first_instrumented i.image i.settings.harts i.settings.budget i.settings.instruments; ready = [] })
    (first_search i)
    (replicate i.settings.harts 0) i.settings.harts i.settings.width

-- ---- steps

-- what is asked before a sample: fewer than 2^63 were taken, and the time counts the ticks
pub record CanSample (t : StateTable) : Type 0 where
  pub places : t.places ≡ length t.machine.state.core.harts
  pub marks : length t.marks ≡ length t.machine.state.core.harts
  pub harts : AllByRecursion (HasHarts (length t.machine.state.core.harts)) t.pairs
  pub few : AllByRecursion HasFew t.pairs
  pub number : length t.pairs < 2 ^ 32
  pub samples : t.samples < 2 ^ 63
  pub most : length t.machine.state.core.harts ≤ MAX_HARTS
  pub ticks : ticks_in t.machine.state.core.harts ≤ t.time
  pub live : AreLive t.machine.state.placer t.pairs t.live

-- turns
abbrev pub table_taken : List Event → StateTable → StateTable
table_taken turns t = record t {
  machine = record t.machine { state = after_turns turns t.machine.state };
  time = t.time + length (owns turns t.machine.state.core);
  idle = t.idle + (length turns - length (owns turns t.machine.state.core));
}

abbrev pub table_turned : ℕ → ℕ → StateTable → StateTable
table_turned h n t = table_taken (quantum_turns n h t.machine.state.core) t

-- eight entries of the agenda
abbrev pub table_handed : StateTable → StateTable
table_handed t = record t { machine = record t.machine { state = repeated 8 Hands t.machine.state } }

abbrev pub table_quiet : StateTable → StateTable
table_quiet t = table_taken (settling t.machine.state.core) t

abbrev pub table_sampled : StateTable → StateTable
table_sampled t = record t {
  pairs = map (pair_sampled t.machine.state t.time) t.pairs;
  latest = pairs_latest t.machine.state t.time 0 t.pairs;
  tests = pairs_tests t.machine.state t.marks t.pairs;
  marks = ticks_of t.machine.state;
  samples = t.samples + 1;
  last = t.time;
  idle = 0;
  observed = observed_cost t.idle (t.time - t.last);
}

abbrev pub table_swept : StateTable → StateTable
table_swept t =
    record t { machine = record t.machine { state = repeated (length t.machine.state.placer.book.agenda) Sweeps t.machine.state } }

-- and tests that are gone are forgotten
abbrev pub table_freed : StateTable → StateTable
table_freed t = record (table_swept t) { live = live_of (table_swept t).machine.state.placer t.pairs t.live }

abbrev pub table_armed : StateTable → StateTable
table_armed t = record t {
  machine = record t.machine { state = machine_of_armed t.machine.state t.pairs };
  pairs = pairs_armed t.time t.machine.state t.pairs;
}

-- the search's step, and what it drops
abbrev pub table_stepped : SearchData → StateTable → StateTable
table_stepped search t = record t {
  machine = record t.machine { state = dropped_tests search.drops (map (λ (k : SampledPair). k.shown) t.pairs) t.machine.state };
  search = search;
}

abbrev pub table_judged : StateTable → StateTable
table_judged t = table_stepped (search_step t.time t.tests t.search) t

abbrev pub table_next : ℕ → StateTable → StateTable
table_next width t = record t { due = next_due width t.time; worked = true }

-- the due work: settle, sample, free, arm, judge
abbrev pub table_worked : ℕ → StateTable → StateTable
table_worked width t = table_next width (table_judged (table_armed (table_freed (table_sampled (table_quiet t)))))

-- the end: settle, and sample and judge once more where time passed since the last sample; then the search ends
abbrev pub table_last : StateTable → StateTable
table_last t = table_judged (table_sampled t)

abbrev pub table_ended : StateTable → StateTable
table_ended t = record t { search = with_end t.search }

abbrev pub table_closed : StateTable → StateTable
table_closed t = table_ended (if nat_lt (table_quiet t).last (table_quiet t).time then table_last (table_quiet t) else table_quiet t)

-- the whole agenda, and then each instrument is armed
abbrev pub table_opened : StateTable → StateTable
table_opened t = table_armed
    (record t { machine = record t.machine { state = repeated (length t.machine.state.placer.book.agenda) Hands t.machine.state } })

abbrev pub table_begun : ℕ → ℕ → StateTable → StateTable
table_begun h n t = table_handed (table_turned h n t)

-- a quantum after its admission
abbrev pub table_tended : ℕ → ℕ → ℕ → StateTable → StateTable
table_tended width h n t =
    if nat_le (table_begun h n t).due (table_begun h n t).time then table_worked width (table_begun h n t) else table_begun h n t

-- ---- a pair that is to be shown

-- a pair that was admitted: nothing was read of it yet
pub record IsNew (i : Inputs) (k : SampledPair) : Type 0 where
  pub last : k.last ≡ 0
  pub hist : k.hist ≡ hist_at i k.shown []
  pub harts : (k.first, k.count) ≡ harts_of_node i.tree.harts k.shown.focus.hart
  pub within : k.first + k.count ≤ i.settings.harts
  pub cost : k.cost ≡ cost_of i k.shown
  pub low : k.cost < 2 ^ 32

-- the pairs with some new ones at the end
pub record IsMore (i : Inputs) (old new : List SampledPair) : Type 0 where
  pub more : List SampledPair
  pub is : new ≡ old ++ more
  pub each : AllByRecursion (IsNew i) more

-- needs that are among those that are ready, in their order
abbrev pub AreReady : List Need → List Need → Type 0
AreReady [] ready = Unit {0}
AreReady (n ∷ ns) [] = ⊥
AreReady (n ∷ ns) (r ∷ ready) = ((n ≡ r) × AreReady ns ready) ⊎ AreReady (n ∷ ns) ready

-- the first `n` wishes aren't above a time, and the next is, if there is one
abbrev pub IsCount : ℕ → List CheckedWish → ℕ → Type 0
IsCount time [] n = n ≡ 0
IsCount time (w ∷ ws) zero = nat_le w.at time ≡ false
IsCount time (w ∷ ws) (suc n) = (nat_le w.at time ≡ true) × IsCount time ws n

-- what no admission changes
pub record IsStill (old new : StateTable) : Type 0 where
  pub same : new ≡ record old {
    machine = new.machine;
    refused = new.refused;
    pairs = new.pairs;
    live = new.live;
    search = new.search;
    room = new.room;
    worked = new.worked;
  }
  pub core : new.machine.state.core ≡ old.machine.state.core
  pub rules : new.search.rules ≡ old.search.rules

-- after an admission in which the first `n` wishes were looked at
pub record IsAfterAdmission (i : Inputs) (later : List CheckedWish) (old new : StateTable) (n : ℕ) : Type 0 where
  pub looked : n ≤ length later
  pub kept : kept_of (drop n later) new ≡ with_admission i (kept_of later old)
  pub pairs : IsMore i old.pairs new.pairs
  pub few : length new.pairs ≤ length old.pairs + n + taken_at_once
  pub live : AreLive new.machine.state.placer new.pairs new.live
  pub stays : IsStill old new

-- nothing but the memory that was taken has changed
abbrev pub IsSame : StateTable → StateTable → Type 0
IsSame old new = new ≡ record old { machine = record old.machine { ready = new.machine.ready }; room = new.room }
