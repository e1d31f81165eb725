-- The list of pairs, where those at live places are sampled one after another.
use Rattle.std.proofs.Common.{◌≡◌, ℕ, ◌+◌, ◌≤◌, Option, Some, None, List, [], ◌∷◌, ◌++◌, map, length, sym, ap, ap₂, ◌∙◌, arith, append_assoc, append-nil}
use Rattle.std.specs.Prelude.{true}
use Rattle.std.specs.List.{AllByRecursion}
use Rattle.fold_hist.specs.declared.bin.Bin.{Bin}
use Rattle.instrumented.specs.Instrumented.{Instrumented}
use Rattle.w3_search.specs.declared.node.NodeSample.{NodeSample}
use Rattle.session_spec.specs.declared.data.LatestSample.{LatestSample}
use Rattle.session_spec.specs.Due.{place_behind}
use Rattle.session_pairs.specs.declared.pair.SampledPair.{SampledPair}
use Rattle.session_pairs.specs.SampledPairs.{HasFew, HasHarts, is_gone_test, pair_bin, pair_sampled, pair_ticks, pairs_latest, pairs_tests, latest_by, test_by}
use Rattle.session_pairs.proofs.GoneTests.{gone_latest, gone_place, gone_sampled, gone_samples}
use Rattle.session_pairs.proofs.Sampled.{latest_is, test_is}

-- a pair gives one sample at most
pub few_latest : (o : Option ℕ) (place : ℕ) (bin : Option Bin) → length (latest_by o place bin) ≤ 1
few_latest None place (Some b) = omega arith
few_latest None place None = omega arith
few_latest (Some n) place bin = omega arith

pub few_tests : (o : Option ℕ) (ticks : ℕ) (bin : Option Bin) → length (test_by o ticks bin) ≤ 1
few_tests (Some n) ticks (Some b) = omega arith
few_tests (Some n) ticks None = omega arith
few_tests None ticks bin = omega arith

pub behind_within : (o : Option ℕ) (place : ℕ) → place_behind o place ≤ place + 1
behind_within None place = omega arith
behind_within (Some n) place = omega arith

-- The pairs before a place were sampled, of the old ones, and those from it on weren't yet; these are the samples so far.
pub record AreSampled (m : Instrumented) (time : ℕ) (marks : List ℕ) (old : List SampledPair) (ls : List LatestSample) (ts : List NodeSample) (latest_now : List LatestSample) (tests_now : List NodeSample) (wished : ℕ)
    (front left : List SampledPair) : Type 0 where
  pub done : front ++ map (pair_sampled m time) left ≡ map (pair_sampled m time) old
  pub latest : latest_now ++ pairs_latest m time wished left ≡ ls ++ pairs_latest m time 0 old
  pub tests : tests_now ++ pairs_tests m marks left ≡ ts ++ pairs_tests m marks old
  pub harts : AllByRecursion (HasHarts (length m.core.harts)) left
  pub few : AllByRecursion HasFew left

module _ (m : Instrumented) (time : ℕ) (marks : List ℕ) (old : List SampledPair) (ls : List LatestSample) (ts : List NodeSample) where
  -- a test that is gone stays what it is, and gives no sample
  pub sampled_pass : (latest : List LatestSample) (tests : List NodeSample) (wished : ℕ) (front : List SampledPair) (k : SampledPair) (left : List SampledPair) → is_gone_test m.placer k ≡ true
      → AreSampled m time marks old ls ts latest tests wished front (k ∷ left) → AreSampled m time marks old ls ts latest tests wished (front ++ k ∷ []) left
  sampled_pass latest tests wished front k left g h = record {
    done = append_assoc front (k ∷ []) (map (pair_sampled m time) left) ∙ (ap (λ (x : SampledPair). front ++ x ∷ map (pair_sampled m time) left) (sym (gone_sampled m k g time)) ∙ h.done);
    latest = ap₂ (λ (xs : List LatestSample) (w : ℕ). latest ++ (xs ++ pairs_latest m time w left)) (sym (gone_latest m k g time wished)) (sym (gone_place m.placer k g wished)) ∙ h.latest;
    tests = ap (λ (xs : List NodeSample). tests ++ (xs ++ pairs_tests m marks left)) (sym (gone_samples m k g marks)) ∙ h.tests;
    harts = (h.harts).1;
    few = (h.few).1;
  }

  -- a pair is sampled
  module _ (latest : List LatestSample) (tests : List NodeSample) (wished : ℕ) (front : List SampledPair) (k : SampledPair) (left : List SampledPair) (h : AreSampled m time marks old ls ts latest tests wished front (k ∷ left))
      (bin : Option Bin) (is_bin : bin ≡ pair_bin m time k) where
    latest_more : (now : List LatestSample) (next : ℕ) → now ≡ latest ++ latest_by k.shown.node wished bin → next ≡ place_behind k.shown.node wished
        → now ++ pairs_latest m time next left ≡ ls ++ pairs_latest m time 0 old
    latest_more now next e n =
        ap₂ (λ (xs : List LatestSample) (w : ℕ). xs ++ pairs_latest m time w left) e n
        ∙ (append_assoc latest (latest_by k.shown.node wished bin) (pairs_latest m time (place_behind k.shown.node wished) left)
        ∙ (ap (λ (b : Option Bin). latest ++ (latest_by k.shown.node wished b ++ pairs_latest m time (place_behind k.shown.node wished) left)) is_bin
        ∙ (ap (λ (xs : List LatestSample). latest ++ (xs ++ pairs_latest m time (place_behind k.shown.node wished) left)) (latest_is m time k wished) ∙ h.latest)))

    tests_more : (now : List NodeSample) → now ≡ tests ++ test_by k.shown.node (pair_ticks m marks k) bin → now ++ pairs_tests m marks left ≡ ts ++ pairs_tests m marks old
    tests_more now e =
        ap (λ (xs : List NodeSample). xs ++ pairs_tests m marks left) e
        ∙ (append_assoc tests (test_by k.shown.node (pair_ticks m marks k) bin) (pairs_tests m marks left)
        ∙ (ap (λ (b : Option Bin). tests ++ (test_by k.shown.node (pair_ticks m marks k) b ++ pairs_tests m marks left)) is_bin
        ∙ (ap (λ (xs : List NodeSample). tests ++ (xs ++ pairs_tests m marks left)) (test_is m time k marks) ∙ h.tests)))

    pub sampled_more : (new : SampledPair) (now : List LatestSample) (now_tests : List NodeSample) (next : ℕ) → new ≡ pair_sampled m time k → now ≡ latest ++ latest_by k.shown.node wished bin
        → now_tests ≡ tests ++ test_by k.shown.node (pair_ticks m marks k) bin → next ≡ place_behind k.shown.node wished
        → AreSampled m time marks old ls ts now now_tests next (front ++ new ∷ []) left
    sampled_more new now now_tests next is e t n = record {
      done = append_assoc front (new ∷ []) (map (pair_sampled m time) left) ∙ (ap (λ (x : SampledPair). front ++ x ∷ map (pair_sampled m time) left) is ∙ h.done);
      latest = latest_more now next e n;
      tests = tests_more now_tests t;
      harts = (h.harts).1;
      few = (h.few).1;
    }

-- all were
pub all_sampled : {m : Instrumented} {time : ℕ} {marks : List ℕ} {old : List SampledPair} {ls : List LatestSample} {ts : List NodeSample} {latest : List LatestSample} {tests : List NodeSample} {wished : ℕ}
    {now : List SampledPair} → AreSampled m time marks old ls ts latest tests wished now []
    → (now ≡ map (pair_sampled m time) old) × (latest ≡ ls ++ pairs_latest m time 0 old) × (tests ≡ ts ++ pairs_tests m marks old)
all_sampled {latest} {tests} {now} h = (sym (append-nil now) ∙ h.done, sym (append-nil latest) ∙ h.latest, sym (append-nil tests) ∙ h.tests)
