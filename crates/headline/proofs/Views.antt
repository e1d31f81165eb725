-- The samples that views are given of a pair are those of its histogram.
use Rattle.std.proofs.Common.{◌≡◌, ℕ, zero, suc, ◌+◌, cond, Option, Some, None, List, [], ◌∷◌, ◌++◌, refl, sym, subst, ◌∙◌, inl, inr, arith}
use Rattle.std.specs.Prelude.{is_none, slice_get}
use Rattle.fold_hist.specs.Bins.{hist_of}
use Rattle.fold_hist.specs.declared.bin.Bin.{Bin}
use Rattle.machine.specs.Cores.{In}
use Rattle.report.specs.declared.parts.ShownPart.{ShownPart}
use Rattle.session.specs.Bins.{IsPartOf}
use Rattle.session.specs.Parts.{parts_of, shown_part, shown_parts}
use Rattle.session_spec.specs.Bins.{AreMeasured, AreRecorded, AreSamplesOf}
use Rattle.session_spec.specs.Feed.{AreFed, told_at}
use Rattle.session_spec.specs.Due.{place_behind}
use Rattle.session_spec.specs.Inputs.{Inputs}
use Rattle.session_spec.specs.States.{State}
use Rattle.session_spec.specs.declared.data.LatestSample.{LatestSample}
use Rattle.session_spec.specs.declared.data.MetricFocusPair.{MetricFocusPair}

module _ (i : Inputs) (s : State) (feed : List LatestSample) where
  -- the part of a pair with its samples in the place of its bins
  abbrev IsFedPart : ℕ → ShownPart → Type 0
  IsFedPart n part = IsPartOf i s (record part { bins = told_at n feed })

  abbrev AreFedParts : ℕ → List ShownPart → Type 0
  AreFedParts m ps = (k : ℕ) (part : ShownPart) → slice_get ps k ≡ Some part → IsFedPart (m + k) part

  one_fed : (m : ℕ) (x : MetricFocusPair) (r : List Bin) → In x s.kept.shown → x.node ≡ None → AreSamplesOf i s.owns x r → told_at m feed ≡ r → IsFedPart m (shown_part i x (hist_of i.settings.bins r))
  one_fed m x r listed wished k e = record {
    x = x;
    listed = listed;
    wished = wished;
    metric = refl;
    focus = refl;
    from = refl;
    plan = k.plan;
    planned = k.planned;
    none = λ never. e ∙ k.never never;
    bins = λ a armed. subst (λ (bs : List Bin). AreMeasured i s.owns k.plan x.focus a a bs x.from) (sym e) (k.samples a armed);
  }

  fed_next : (o : Option ℕ) (m : ℕ) (part : ShownPart) (rest : List ShownPart) → (o ≡ None → IsFedPart m part) → AreFedParts (place_behind o m) rest → AreFedParts m (cond (is_none o) (part ∷ []) [] ++ rest)
  fed_next None m part rest here later zero q e =
      let same : part ≡ q = cc in
      let first : m + 0 ≡ m = omega arith in
      subst (λ (n : ℕ). IsFedPart n q) (sym first) (subst (IsFedPart m) same (here refl))
  fed_next None m part rest here later (suc k) q e =
      let next : m + suc k ≡ m + 1 + k = omega arith in
      subst (λ (n : ℕ). IsFedPart n q) (sym next) (later k q e)
  fed_next (Some node) m part rest here later k q e = later k q e

  all_fed : (m : ℕ) (xs : List MetricFocusPair) (rs : List (List Bin)) → ((x : MetricFocusPair) → In x xs → In x s.kept.shown)
      → ((n : ℕ) (x : MetricFocusPair) (r : List Bin) → slice_get xs n ≡ Some x → slice_get rs n ≡ Some r → AreSamplesOf i s.owns x r) → AreFed m feed xs rs → AreFedParts m (shown_parts i xs rs)
  all_fed m [] rs among each fed = λ k p e. absurd (cc)
  all_fed m (x ∷ xs) [] among each fed = λ k p e. absurd (cc)
  all_fed m (x ∷ xs) (r ∷ rs) among each fed =
      fed_next x.node m (shown_part i x (hist_of i.settings.bins r)) (shown_parts i xs rs)
      (λ none. one_fed m x r (among x (inl refl)) none (each 0 x r refl refl) (fed.0 none))
      (all_fed (place_behind x.node m) xs rs (λ y there. among y (inr there)) (λ n y q e f. each (suc n) y q e f) fed.1)

  pub fed_parts : AreRecorded i s → AreFed 0 feed s.kept.shown s.recorded → (n : ℕ) (part : ShownPart) → slice_get (parts_of i s).shown n ≡ Some part → IsFedPart n part
  fed_parts recorded fed n part e =
      let first : 0 + n ≡ n = omega arith in
      subst (λ (k : ℕ). IsFedPart k part) first (all_fed 0 s.kept.shown s.recorded (λ x there. there) recorded.each fed n part e)
