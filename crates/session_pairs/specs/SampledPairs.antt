-- For proofs alone: what the code of a session does with each pair that is shown or tested.
use Rattle.std.specs.Prelude.{◌≡◌, ℕ, ◌+◌, ◌<◌, ◌≤◌, ◌^◌, ◌&&◌, ◌⊎◌, if◌then◌else◌, Bool, true, false, not, Option, Some, None, IfSome, is_none, is_some, List, [], ◌∷◌, ◌++◌, filter, map, slice_get}
use Rattle.std.specs.Option.{option_map, option_map_or}
use Rattle.std.specs.List.{range_with_len}
use Rattle.fold_hist.specs.declared.bin.Bin.{Bin}
use Rattle.fold_hist.specs.Steps.{pushed}
use Rattle.instrumented.specs.Instrumented.{Instrumented, after_act}
use Rattle.instrument.specs.Placements.{Placements, instrument_at, state_of}
use Rattle.instrument.specs.Scenes.{Drops}
use Rattle.machine.specs.Measures.{difference}
use Rattle.w3_search.specs.declared.node.NodeSample.{NodeSample}
use Rattle.session_spec.specs.declared.data.LatestSample.{LatestSample}
use Rattle.session_spec.specs.declared.data.MetricFocusPair.{MetricFocusPair}
use Rattle.session_spec.specs.Due.{is_armed, is_ready, machine_armed, place_behind}
use Rattle.session_spec.specs.Readings.{reading_by, ticks_between, ticks_of}
use Rattle.session_spec.specs.Tests.{is_gone}
use Rattle.session_spec.specs.Verdicts.{tester_of}
use Rattle.session_spec.specs.Rosters.{AreBelow, AreNumbered}
use Rattle.session_pairs.specs.declared.pair.SampledPair.{SampledPair}

-- what its instrument reads
abbrev pub pair_reading : Instrumented → SampledPair → ℕ
pair_reading m k = reading_by (instrument_at m.placer k.shown.instrument.n) (range_with_len k.first k.count) m.core

-- ---- samples

unfoldable pub pair_sampled : Instrumented → ℕ → SampledPair → SampledPair
pair_sampled m time k =
    if is_armed m.placer k.shown
    then record k {
      shown = record k.shown { from = time };
      last = pair_reading m k;
      hist = option_map (λ hist. pushed hist (record { from = k.shown.from; to = time; sum = difference k.last (pair_reading m k) })) k.hist;
    }
    else k

-- the sample of a pair, if it is armed, from its last one or its arming to now
abbrev pub pair_bin : Instrumented → ℕ → SampledPair → Option Bin
pair_bin m time k =
    if is_armed m.placer k.shown then Some (record { from = k.shown.from; to = time; sum = difference k.last (pair_reading m k) }) else None

-- that of a pair which was wished, with its place among those
unfoldable pub pair_latest : Instrumented → ℕ → ℕ → SampledPair → List LatestSample
pair_latest m time place k =
    if is_none k.shown.node && is_armed m.placer k.shown
    then record { shown = place; from = k.shown.from; to = time; sum = difference k.last (pair_reading m k) } ∷ []
    else []

abbrev pub pairs_latest : Instrumented → ℕ → ℕ → List SampledPair → List LatestSample
pairs_latest m time place [] = []
pairs_latest m time place (k ∷ ks) = pair_latest m time place k ++ pairs_latest m time (place_behind k.shown.node place) ks

-- that of a node's pair, where `marks` says how many ticks each hart had when its last sample ended
abbrev pub pair_ticks : Instrumented → List ℕ → SampledPair → ℕ
pair_ticks m marks k = ticks_between (range_with_len k.first k.count) marks (ticks_of m)

abbrev pub pair_test_by : Option ℕ → Instrumented → List ℕ → SampledPair → List NodeSample
pair_test_by None m marks k = []
pair_test_by (Some n) m marks k =
    if is_armed m.placer k.shown
    then record { node = n; from = k.shown.from; value = difference k.last (pair_reading m k); ticks = pair_ticks m marks k } ∷ []
    else []

unfoldable pub pair_test : Instrumented → List ℕ → SampledPair → List NodeSample
pair_test m marks k = pair_test_by k.shown.node m marks k

abbrev pub pairs_tests : Instrumented → List ℕ → List SampledPair → List NodeSample
pairs_tests m marks [] = []
pairs_tests m marks (k ∷ ks) = pair_test m marks k ++ pairs_tests m marks ks

-- as what a sample of a pair is recorded
abbrev pub latest_by : Option ℕ → ℕ → Option Bin → List LatestSample
latest_by None place (Some b) = record { shown = place; from = b.from; to = b.to; sum = b.sum } ∷ []
latest_by None place None = []
latest_by (Some n) place bin = []

abbrev pub test_by : Option ℕ → ℕ → Option Bin → List NodeSample
test_by (Some n) ticks (Some b) = record { node = n; from = b.from; value = b.sum; ticks = ticks } ∷ []
test_by (Some n) ticks None = []
test_by None ticks bin = []

-- its harts are some of a number of harts
abbrev pub HasHarts : ℕ → SampledPair → Type 0
HasHarts harts k = k.first + k.count ≤ harts

-- its histogram, if it has one, can take one more sample
abbrev pub HasFew : SampledPair → Type 0
HasFew k = IfSome k.hist (λ hist. hist.count < 2 ^ 32)

-- ---- armings

unfoldable pub pair_armed : ℕ → Instrumented → SampledPair → SampledPair
pair_armed time m k =
    if is_ready m k.shown
    then record k { shown = record k.shown { armed = Some time; from = time }; last = pair_reading (machine_armed m k.shown) k }
    else k

-- one after another
abbrev pub machine_of_armed : Instrumented → List SampledPair → Instrumented
machine_of_armed m [] = m
machine_of_armed m (k ∷ ks) = machine_of_armed (machine_armed m k.shown) ks

abbrev pub pairs_armed : ℕ → Instrumented → List SampledPair → List SampledPair
pairs_armed time m [] = []
pairs_armed time m (k ∷ ks) = pair_armed time m k ∷ pairs_armed time (machine_armed m k.shown) ks

-- ---- drops

abbrev pub dropped_by : Option MetricFocusPair → Instrumented → Instrumented
dropped_by None m = m
dropped_by (Some s) m = after_act (Drops s.instrument.n) m

-- the instruments that test these nodes are dropped, one after another
abbrev pub dropped_tests : List ℕ → List MetricFocusPair → Instrumented → Instrumented
dropped_tests [] ss m = m
dropped_tests (n ∷ ns) ss m = dropped_tests ns ss (dropped_by (tester_of m.placer n ss) m)

-- ---- those that may still be sampled

-- a test whose instrument is gone
abbrev pub is_gone_test : Placements → SampledPair → Bool
is_gone_test p k = is_some k.shown.node && is_gone (state_of p k.shown.instrument.n)

-- From place n on, these places, which ascend, are those of all pairs but of some tests that are gone.
abbrev pub AreLiveFrom : ℕ → Placements → List SampledPair → List ℕ → Type 0
AreLiveFrom n p [] [] = Unit {0}
AreLiveFrom n p [] (at ∷ live) = ⊥
AreLiveFrom n p (k ∷ ks) [] = (is_gone_test p k ≡ true) × AreLiveFrom (n + 1) p ks []
AreLiveFrom n p (k ∷ ks) (at ∷ live) =
    ((at ≡ n) × AreLiveFrom (n + 1) p ks live) ⊎ ((n < at) × (is_gone_test p k ≡ true) × AreLiveFrom (n + 1) p ks (at ∷ live))

-- These places are those of all pairs but of some tests that are gone; and what is gone stays gone.
pub record AreLive (p : Placements) (pairs : List SampledPair) (live : List ℕ) : Type 0 where
  pub roster : AreNumbered p
  pub below : AreBelow p.count (map (λ (k : SampledPair). k.shown) pairs)
  pub places : AreLiveFrom 0 p pairs live

-- these places without those of tests that are gone
abbrev pub live_of : Placements → List SampledPair → List ℕ → List ℕ
live_of p pairs live = filter (λ at. not (option_map_or (is_gone_test p) (slice_get pairs at) false)) live
