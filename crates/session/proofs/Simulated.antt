-- What the code does with each pair, and with what a session goes on from, is what the definitions do.
use Rattle.std.proofs.Common.{◌≡◌, ℕ, ◌<◌, ◌≤◌, ◌^◌, List, [], ◌∷◌, ◌++◌, Option, Some, None, refl, sym, ap, ap₂, ◌∙◌, arith}
use Rattle.std.specs.Prelude.{Bool, true, false, cond, is_none, map, ◌&&◌}
use Rattle.std.specs.List.{AllByRecursion, range_with_len}
use Rattle.std.specs.Option.{option_map}
use Rattle.fold_hist.specs.declared.bin.Bin.{Bin}
use Rattle.fold_hist.specs.Bins.{Histogram, hist_of}
use Rattle.fold_hist.specs.Steps.{pushed}
use Rattle.fold_hist.proofs.Pushes.{pushed_is}
use Rattle.machine.specs.Measures.{difference}
use Rattle.mdl_check.specs.declared.checked.CheckedWish.{CheckedWish}
use Rattle.resource_tree.specs.Foci.{harts_of_node as harts_at}
use Rattle.instrument.specs.Placements.{instrument_at}
use Rattle.instrumented.specs.Instrumented.{Instrumented}
use Rattle.session_spec.specs.declared.data.LatestSample.{LatestSample}
use Rattle.session_spec.specs.declared.data.MetricFocusPair.{MetricFocusPair}
use Rattle.session_spec.specs.Inputs.{Inputs}
use Rattle.session_spec.specs.Due.{all_armed, arm_all, is_armed, is_ready, machine_armed, place_behind, sampled_to, with_arms, with_frees, with_next, with_samples}
use Rattle.session_spec.specs.Turns.{with_entries, with_hart, with_quiet}
use Rattle.session_spec.specs.Readings.{lasts_armed, lasts_now, read_now, reading_by, recorded_read, sum_read, ticks_between, ticks_of}
use Rattle.session_spec.specs.Verdicts.{with_search_end, with_verdicts}
use Rattle.session_spec.specs.Reads.{latest_read, node_read_by, nodes_read}
use Rattle.w3_search.specs.declared.node.NodeSample.{NodeSample}
use Rattle.w3_search.specs.Steps.{search_step}
use Rattle.session_pairs.proofs.Dropped.{without_tests_are}
use Rattle.session_pairs.specs.declared.pair.SampledPair.{SampledPair}
use Rattle.session_pairs.specs.SampledPairs.{pair_armed, pair_latest, pair_reading, pair_sampled, pair_test, pair_test_by, pairs_armed, pairs_latest, pairs_tests, machine_of_armed}
use Rattle.session.specs.Tables.{AreFolded, StateTable, hist_at, kept_of, lasts_in, shown_in, table_armed, table_ended, table_freed, table_handed, table_judged, table_next, table_quiet, table_sampled, table_turned}

-- the harts of a pair are those of its focus
pub record IsOf (i : Inputs) (k : SampledPair) : Type 0 where
  pub harts : (k.first, k.count) ≡ harts_at i.tree.harts k.shown.focus.hart

-- a difference of readings has 64 bits
small : (a b : ℕ) → difference a b < 2 ^ 64
small a b = omega arith

module _ (i : Inputs) (m : Instrumented) where
  pub reading_is : (k : SampledPair) → IsOf i k → pair_reading m k ≡ read_now i m k.shown
  reading_is k o = ap (λ (h : ℕ × ℕ). reading_by (instrument_at m.placer k.shown.instrument.n) (range_with_len h.0 h.1) m.core) o.harts

  -- ---- samples

  module _ (time : ℕ) (k : SampledPair) (o : IsOf i k) where
    abbrev sampled_pair : SampledPair
    sampled_pair = record k {
      shown = record k.shown { from = time };
      last = pair_reading m k;
      hist = option_map (λ (h : Histogram). pushed h (record { from = k.shown.from; to = time; sum = difference k.last (pair_reading m k) })) k.hist;
    }

    shown_one : (b : Bool) → is_armed m.placer k.shown ≡ b → (pair_sampled m time k).shown ≡ sampled_to m.placer time k.shown
    unfolding pair_sampled
    shown_one b e = by (is_armed m.placer k.shown)
      where
        by : (b : Bool) → (cond b sampled_pair k).shown ≡ cond b (record k.shown { from = time }) k.shown
        by true = refl
        by false = refl

    last_one : (pair_sampled m time k).last ≡ cond (is_armed m.placer k.shown) (read_now i m k.shown) k.last
    unfolding pair_sampled
    last_one = by (is_armed m.placer k.shown)
      where
        by : (b : Bool) → (cond b sampled_pair k).last ≡ cond b (read_now i m k.shown) k.last
        by true = reading_is k o
        by false = refl

    abbrev bin_read : Bin
    bin_read = record { from = k.shown.from; to = time; sum = sum_read i m k.shown k.last }

    same_node : (pair_sampled m time k).shown.node ≡ k.shown.node
    unfolding pair_sampled
    same_node = by (is_armed m.placer k.shown)
      where
        by : (b : Bool) → (cond b sampled_pair k).shown.node ≡ k.shown.node
        by true = refl
        by false = refl

    -- a sample in the histogram of those before it, if there is one
    one_more : 1 ≤ i.settings.bins → (r : List Bin) (b : Bool)
        → option_map (λ (h : Histogram). pushed h bin_read) (cond b (Some (hist_of i.settings.bins r)) None) ≡ cond b (Some (hist_of i.settings.bins (r ++ bin_read ∷ []))) None
    one_more some r true = ap (λ (h : Histogram). Some h) (pushed_is i.settings.bins r bin_read some (small k.last (read_now i m k.shown)))
    one_more some r false = refl

    hist_one : 1 ≤ i.settings.bins → (r : List Bin) → k.hist ≡ hist_at i k.shown r
        → (pair_sampled m time k).hist ≡ hist_at i (pair_sampled m time k).shown (cond (is_armed m.placer k.shown) (r ++ bin_read ∷ []) r)
    unfolding pair_sampled
    hist_one some r e = by (is_armed m.placer k.shown)
      where
        by : (b : Bool) → (cond b sampled_pair k).hist
            ≡ hist_at i (cond b sampled_pair k).shown (cond b (r ++ bin_read ∷ []) r)
        by true =
            ap (λ x. option_map (λ (h : Histogram). pushed h (record { from = k.shown.from; to = time; sum = difference k.last x })) k.hist) (reading_is k o)
            ∙ (ap (option_map (λ (h : Histogram). pushed h bin_read)) e ∙ one_more some r (is_none k.shown.node))
        by false = e

    abbrev latest_of : ℕ → ℕ → List LatestSample
    latest_of place r = record { shown = place; from = k.shown.from; to = time; sum = difference k.last r } ∷ []

    latest_one : (place : ℕ) → pair_latest m time place k ≡ cond {A = List LatestSample} (is_none k.shown.node && is_armed m.placer k.shown) (latest_of place (read_now i m k.shown)) []
    unfolding pair_latest
    latest_one place = ap (λ r. cond {A = List LatestSample} (is_none k.shown.node && is_armed m.placer k.shown) (latest_of place r) []) (reading_is k o)

    abbrev test_of : List ℕ → ℕ → ℕ → List ℕ → List NodeSample
    test_of marks n r harts = record { node = n; from = k.shown.from; value = difference k.last r; ticks = ticks_between harts marks (ticks_of m) } ∷ []

    test_one : (marks : List ℕ) → pair_test m marks k ≡ node_read_by k.shown.node i m time marks k.shown k.last
    unfolding pair_test
    test_one marks = by k.shown.node
      where
        by : (node : Option ℕ) → pair_test_by node m marks k ≡ node_read_by node i m time marks k.shown k.last
        by None = refl
        by (Some n) =
            ap (λ (r : ℕ). cond {A = List NodeSample} (is_armed m.placer k.shown) (test_of marks n r (range_with_len k.first k.count)) []) (reading_is k o)
            ∙ ap (λ (h : ℕ × ℕ). cond {A = List NodeSample} (is_armed m.placer k.shown) (test_of marks n (read_now i m k.shown) (range_with_len h.0 h.1)) []) o.harts

  module _ (time : ℕ) where
    pub shown_sampled : (pairs : List SampledPair) → AllByRecursion (IsOf i) pairs → shown_in (map (pair_sampled m time) pairs) ≡ map (sampled_to m.placer time) (shown_in pairs)
    shown_sampled [] a = refl
    shown_sampled (k ∷ pairs) a = ap₂ (λ (x : MetricFocusPair) (xs : List MetricFocusPair). x ∷ xs) (shown_one time k a.0 (is_armed m.placer k.shown) refl) (shown_sampled pairs a.1)

    pub lasts_sampled : (pairs : List SampledPair) → AllByRecursion (IsOf i) pairs → lasts_in (map (pair_sampled m time) pairs) ≡ lasts_now i m (shown_in pairs) (lasts_in pairs)
    lasts_sampled [] a = refl
    lasts_sampled (k ∷ pairs) a = ap₂ (λ (x : ℕ) (xs : List ℕ). x ∷ xs) (last_one time k a.0) (lasts_sampled pairs a.1)

    pub folded_sampled : 1 ≤ i.settings.bins → (pairs : List SampledPair) → AllByRecursion (IsOf i) pairs → (rs : List (List Bin)) → AreFolded i pairs rs
        → AreFolded i (map (pair_sampled m time) pairs) (recorded_read i m time (shown_in pairs) (lasts_in pairs) rs)
    folded_sampled some [] a [] f = tt
    folded_sampled some [] a (r ∷ rs) f = absurd f
    folded_sampled some (k ∷ pairs) a [] f = absurd f
    folded_sampled some (k ∷ pairs) a (r ∷ rs) f = (hist_one time k a.0 some r f.0, folded_sampled some pairs a.1 rs f.1)

    pub latest_sampled : (place : ℕ) (pairs : List SampledPair) → AllByRecursion (IsOf i) pairs → pairs_latest m time place pairs ≡ latest_read place i m time (shown_in pairs) (lasts_in pairs)
    latest_sampled place [] a = refl
    latest_sampled place (k ∷ pairs) a = ap₂ (λ (x xs : List LatestSample). x ++ xs) (latest_one time k a.0 place) (latest_sampled (place_behind k.shown.node place) pairs a.1)

    pub tests_sampled : (marks : List ℕ) (pairs : List SampledPair) → AllByRecursion (IsOf i) pairs → pairs_tests m marks pairs ≡ nodes_read i m time marks (shown_in pairs) (lasts_in pairs)
    tests_sampled marks [] a = refl
    tests_sampled marks (k ∷ pairs) a = ap₂ (λ (x xs : List NodeSample). x ++ xs) (test_one time k a.0 marks) (tests_sampled marks pairs a.1)

-- ---- armings

module _ (i : Inputs) (time : ℕ) where
  module _ (m : Instrumented) (k : SampledPair) (o : IsOf i k) where
    armed_shown : (pair_armed time m k).shown ≡ cond (is_ready m k.shown) (record k.shown { armed = Some time; from = time }) k.shown
    unfolding pair_armed
    armed_shown = by (is_ready m k.shown)
      where
        by : (b : Bool) → (cond b (record k { shown = record k.shown { armed = Some time; from = time }; last = pair_reading (machine_armed m k.shown) k }) k).shown ≡ cond b (record k.shown { armed = Some time; from = time }) k.shown
        by true = refl
        by false = refl

    armed_last : (pair_armed time m k).last ≡ cond (is_ready m k.shown) (read_now i (machine_armed m k.shown) k.shown) k.last
    unfolding pair_armed
    armed_last = by (is_ready m k.shown)
      where
        by : (b : Bool) → (cond b (record k { shown = record k.shown { armed = Some time; from = time }; last = pair_reading (machine_armed m k.shown) k }) k).last ≡ cond b (read_now i (machine_armed m k.shown) k.shown) k.last
        by true = reading_is i (machine_armed m k.shown) k o
        by false = refl

    armed_hist : (r : List Bin) → k.hist ≡ hist_at i k.shown r → (pair_armed time m k).hist ≡ hist_at i (pair_armed time m k).shown r
    unfolding pair_armed
    armed_hist r e = by (is_ready m k.shown)
      where
        by : (b : Bool) → (cond b (record k { shown = record k.shown { armed = Some time; from = time }; last = pair_reading (machine_armed m k.shown) k }) k).hist
            ≡ hist_at i (cond b (record k { shown = record k.shown { armed = Some time; from = time }; last = pair_reading (machine_armed m k.shown) k }) k).shown r
        by true = e
        by false = e

  pub machine_all : (m : Instrumented) (pairs : List SampledPair) → machine_of_armed m pairs ≡ arm_all m (shown_in pairs)
  machine_all m [] = refl
  machine_all m (k ∷ pairs) = machine_all (machine_armed m k.shown) pairs

  pub shown_armed : (m : Instrumented) (pairs : List SampledPair) → AllByRecursion (IsOf i) pairs → shown_in (pairs_armed time m pairs) ≡ all_armed time m (shown_in pairs)
  shown_armed m [] a = refl
  shown_armed m (k ∷ pairs) a = ap₂ (λ (x : MetricFocusPair) (xs : List MetricFocusPair). x ∷ xs) (armed_shown m k a.0) (shown_armed (machine_armed m k.shown) pairs a.1)

  pub lasts_all : (m : Instrumented) (pairs : List SampledPair) → AllByRecursion (IsOf i) pairs → lasts_in (pairs_armed time m pairs) ≡ lasts_armed i m (shown_in pairs) (lasts_in pairs)
  lasts_all m [] a = refl
  lasts_all m (k ∷ pairs) a = ap₂ (λ (x : ℕ) (xs : List ℕ). x ∷ xs) (armed_last m k a.0) (lasts_all (machine_armed m k.shown) pairs a.1)

  pub folded_armed : (m : Instrumented) (pairs : List SampledPair) → AllByRecursion (IsOf i) pairs → (rs : List (List Bin)) → AreFolded i pairs rs → AreFolded i (pairs_armed time m pairs) rs
  folded_armed m [] a [] f = tt
  folded_armed m [] a (r ∷ rs) f = absurd f
  folded_armed m (k ∷ pairs) a [] f = absurd f
  folded_armed m (k ∷ pairs) a (r ∷ rs) f = (armed_hist m k a.0 r f.0, folded_armed (machine_armed m k.shown) pairs a.1 rs f.1)

-- ---- what a session goes on from

module _ (i : Inputs) (ws : List CheckedWish) (t : StateTable) where
  pub turned_is : (h n : ℕ) → kept_of ws (table_handed (table_turned h n t)) ≡ with_entries (with_hart h n (kept_of ws t))
  unfolding with_hart with_entries
  turned_is h n = refl

  pub quiet_is : kept_of ws (table_quiet t) ≡ with_quiet (kept_of ws t)
  unfolding with_quiet
  quiet_is = refl

  pub freed_is : kept_of ws (table_freed t) ≡ with_frees (kept_of ws t)
  unfolding with_frees
  freed_is = refl

  module _ (a : AllByRecursion (IsOf i) t.pairs) where
    abbrev m : Instrumented
    m = t.machine.state

    pub sampled_is : kept_of ws (table_sampled t) ≡ with_samples (kept_of ws t)
    unfolding with_samples
    sampled_is = ap (λ (s : List MetricFocusPair). record (kept_of ws (table_sampled t)) { shown = s }) (shown_sampled i m t.time t.pairs a)

    pub armed_is : kept_of ws (table_armed t) ≡ with_arms (kept_of ws t)
    unfolding with_arms
    armed_is = ap₂ (λ (x : Instrumented) (s : List MetricFocusPair). record (kept_of ws t) { machine = x; shown = s }) (machine_all i t.time m t.pairs) (shown_armed i t.time m t.pairs a)

  pub judged_is : kept_of ws (table_judged t) ≡ with_verdicts t.tests (kept_of ws t)
  unfolding with_verdicts
  judged_is = let search = search_step t.time t.tests t.search in sym (without_tests_are search.drops (record (kept_of ws t) { search = search }))

  pub next_is : (width : ℕ) → kept_of ws (table_next width t) ≡ with_next width (kept_of ws t)
  unfolding with_next
  next_is width = refl

  pub ended_is : kept_of ws (table_ended t) ≡ with_search_end (kept_of ws t)
  unfolding with_search_end
  ended_is = refl
