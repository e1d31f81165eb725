-- The samples of pairs, one by one and together.
use Rattle.std.proofs.Common.{◌≡◌, ℕ, Bool, true, false, cond, Option, Some, None, List, [], ◌∷◌, refl, sym, ap, ap₂, ◌∙◌}
use Rattle.std.specs.Prelude.{◌&&◌, is_none}
use Rattle.std.specs.Option.{option_map}
use Rattle.std.proofs.lemmas.Bool.{cond-true, cond-false}
use Rattle.fold_hist.specs.declared.bin.Bin.{Bin}
use Rattle.fold_hist.specs.Bins.{Histogram}
use Rattle.fold_hist.specs.Steps.{pushed}
use Rattle.instrumented.specs.Instrumented.{Instrumented}
use Rattle.machine.specs.Measures.{difference}
use Rattle.w3_search.specs.declared.node.NodeSample.{NodeSample}
use Rattle.session_spec.specs.declared.data.LatestSample.{LatestSample}
use Rattle.session_spec.specs.Due.{is_armed}
use Rattle.session_pairs.specs.declared.pair.SampledPair.{SampledPair}
use Rattle.session_pairs.specs.SampledPairs.{pair_bin, pair_latest, pair_reading, pair_sampled, pair_test, pair_test_by, pair_ticks, latest_by, test_by}

-- a histogram, if there is one, with one sample more
abbrev pub recorded : Bin → Option Histogram → Option Histogram
recorded bin hist = option_map (λ (h : Histogram). pushed h bin) hist

module _ (m : Instrumented) (time : ℕ) (k : SampledPair) where
  abbrev pub one_bin : Bin
  one_bin = record { from = k.shown.from; to = time; sum = difference k.last (pair_reading m k) }

  abbrev pub armed_pair : SampledPair
  armed_pair = record k {
    shown = record k.shown { from = time };
    last = pair_reading m k;
    hist = recorded one_bin k.hist;
  }

  pub pair_off : is_armed m.placer k.shown ≡ false → pair_sampled m time k ≡ k
  unfolding pair_sampled
  pair_off e = cond-false (is_armed m.placer k.shown) armed_pair k e

  pub pair_on : is_armed m.placer k.shown ≡ true → pair_sampled m time k ≡ armed_pair
  unfolding pair_sampled
  pair_on e = cond-true (is_armed m.placer k.shown) armed_pair k e

  abbrev some_bin : ℕ → Option Bin
  some_bin sum = Some (record { from = k.shown.from; to = time; sum = sum })

  pub bin_off : is_armed m.placer k.shown ≡ false → pair_bin m time k ≡ None
  bin_off e = cond-false (is_armed m.placer k.shown) (Some one_bin) None e

  pub bin_on : is_armed m.placer k.shown ≡ true → pair_bin m time k ≡ Some one_bin
  bin_on e = cond-true (is_armed m.placer k.shown) (Some one_bin) None e

  -- what the code makes of it
  pub sampled_now : (reading sum : ℕ) (hist : Option Histogram) → is_armed m.placer k.shown ≡ true → reading ≡ pair_reading m k → sum ≡ difference k.last reading
      → hist ≡ recorded (record { from = k.shown.from; to = time; sum = sum }) k.hist → record k { shown = record k.shown { from = time }; last = reading; hist = hist } ≡ pair_sampled m time k
  sampled_now reading sum hist a r s h =
      let total : sum ≡ difference k.last (pair_reading m k) = s ∙ ap (difference k.last) r in
      ap₂ (λ (x : ℕ) (y : Option Histogram). record k { shown = record k.shown { from = time }; last = x; hist = y }) r
      (h ∙ ap (λ (x : ℕ). recorded (record { from = k.shown.from; to = time; sum = x }) k.hist) total)
      ∙ sym (pair_on a)

  pub bin_now : (reading sum : ℕ) → is_armed m.placer k.shown ≡ true → reading ≡ pair_reading m k → sum ≡ difference k.last reading
      → Some (record { from = k.shown.from; to = time; sum = sum }) ≡ pair_bin m time k
  bin_now reading sum a r s =
      let total : sum ≡ difference k.last (pair_reading m k) = s ∙ ap (difference k.last) r in
      ap (λ (x : ℕ). some_bin x) total ∙ sym (bin_on a)

  -- what it is put down as
  pub latest_is : (place : ℕ) → latest_by k.shown.node place (pair_bin m time k) ≡ pair_latest m time place k
  unfolding pair_latest
  latest_is place = by k.shown.node (is_armed m.placer k.shown)
    where
      one : List LatestSample
      one = record { shown = place; from = k.shown.from; to = time; sum = difference k.last (pair_reading m k) } ∷ []

      by : (o : Option ℕ) (b : Bool) → latest_by o place (cond b (Some one_bin) None) ≡ cond (is_none o && b) one []
      by None true = refl
      by None false = refl
      by (Some n) b = refl

  abbrev test_cond : List ℕ → Option ℕ → Bool → List NodeSample
  test_cond marks None b = []
  test_cond marks (Some n) b = cond b (record { node = n; from = k.shown.from; value = difference k.last (pair_reading m k); ticks = pair_ticks m marks k } ∷ []) []

  pub test_is : (marks : List ℕ) → test_by k.shown.node (pair_ticks m marks k) (pair_bin m time k) ≡ pair_test m marks k
  unfolding pair_test
  test_is marks = by k.shown.node (is_armed m.placer k.shown) ∙ conds k.shown.node
    where
      by : (o : Option ℕ) (b : Bool) → test_by o (pair_ticks m marks k) (cond b (Some one_bin) None) ≡ test_cond marks o b
      by None b = refl
      by (Some n) true = refl
      by (Some n) false = refl

      conds : (o : Option ℕ) → test_cond marks o (is_armed m.placer k.shown) ≡ pair_test_by o m marks k
      conds None = refl
      conds (Some n) = refl
