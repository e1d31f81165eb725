-- Intervals that follow one another: they stay measured as the run goes on, and so do the bins of their histogram.
use Rattle.std.proofs.Common.{◌≡◌, ℕ, zero, suc, ◌+◌, ◌*◌, ◌%◌, ◌^◌, ◌<◌, ◌≤◌, List, [], ◌∷◌, ◌++◌, length, take, drop, map, sum_by, refl, sym, ap, subst, ◌∙◌, arith, length-drop}
use Rattle.std.specs.Prelude.{nat_le}
use Rattle.std.proofs.lemmas.Bool.{cond_both}
use Rattle.std.proofs.lemmas.List.{length-append}
use Rattle.std.proofs.lemmas.List.Sums.{sum_by-cons}
use Rattle.fold_hist.specs.declared.bin.Bin.{Bin}
use Rattle.fold_hist.specs.Bins.{bin_of, bins_of, doubled, hist_of, last_to, pieces, width_of}
use Rattle.pn_types.specs.declared.focus.Focus.{Focus}
use Rattle.pn_types.specs.declared.plan.Plan.{Plan}
use Rattle.rv_mem.specs.Start.{program_of}
use Rattle.rv_exec.specs.Start.{start}
use Rattle.machine.proofs.Sums.{measures_add}
use Rattle.session_spec.specs.Inputs.{Inputs, harts_of_focus}
use Rattle.session_spec.proofs.Measuring.{measure_more, measure_none}
use Rattle.session_spec.specs.Due.{measure_at}
use Rattle.session_spec.specs.Bins.{AreMeasured, IsMeasured}

-- ---- intervals that may be empty

-- An interval, empty or not, of the whole run, after the arming at time a, with what the plan measures at the focus over it.
pub record IsSpan (i : Inputs) (owns : List ℕ) (plan : Plan) (focus : Focus) (a : ℕ) (b : Bin) : Type 0 where
  pub behind : a ≤ b.from
  pub ordered : b.from ≤ b.to
  pub past : b.to ≤ length owns
  pub sum : b.sum ≡ measure_at i owns plan (harts_of_focus i focus) a b.from b.to

-- Intervals that follow one another from time b to time c.
abbrev pub AreSpans : Inputs → List ℕ → Plan → Focus → ℕ → ℕ → List Bin → ℕ → Type 0
AreSpans i owns plan focus a b [] c = b ≡ c
AreSpans i owns plan focus a b (x ∷ xs) c = (x.from ≡ b) × IsSpan i owns plan focus a x × AreSpans i owns plan focus a x.to xs c

-- none of these intervals is empty
abbrev pub NoneEmpty : List Bin → Type 0
NoneEmpty [] = Unit {0}
NoneEmpty (x ∷ xs) = (x.from < x.to) × NoneEmpty xs

-- nor any of those of several instruments
abbrev pub NoneEmptyIn : List (List Bin) → Type 0
NoneEmptyIn [] = Unit {0}
NoneEmptyIn (r ∷ rs) = NoneEmpty r × NoneEmptyIn rs

none_dropped : (k : ℕ) (xs : List Bin) → NoneEmpty xs → NoneEmpty (drop k xs)
none_dropped zero xs n = n
none_dropped (suc k) [] n = n
none_dropped (suc k) (x ∷ xs) n = none_dropped k xs n.1

module _ (i : Inputs) (plan : Plan) (focus : Focus) (a : ℕ) where
  -- ---- the run goes on

  one_longer : (owns more : List ℕ) (b : Bin) → IsSpan i owns plan focus a b → IsSpan i (owns ++ more) plan focus a b
  one_longer owns more b m =
      let past : b.to ≤ length owns = m.past in
      record {
        behind = m.behind;
        ordered = m.ordered;
        past = omega (arith, length-append owns more);
        sum = m.sum ∙ sym (measure_more (program_of i.image) plan (harts_of_focus i focus) a b.from b.to owns more (start i.image i.settings.harts) m.behind m.ordered past);
      }

  pub all_longer : (owns more : List ℕ) (b : ℕ) (xs : List Bin) (c : ℕ) → AreSpans i owns plan focus a b xs c → AreSpans i (owns ++ more) plan focus a b xs c
  all_longer owns more b [] c h = h
  all_longer owns more b (x ∷ xs) c h = (h.0, one_longer owns more x h.1, all_longer owns more x.to xs c h.2)

  module _ (owns : List ℕ) where
    -- ---- one more

    pub all_push : (b : ℕ) (xs : List Bin) (c : ℕ) (x : Bin) → AreSpans i owns plan focus a b xs c → x.from ≡ c → IsSpan i owns plan focus a x
        → AreSpans i owns plan focus a b (xs ++ x ∷ []) x.to
    all_push b [] c x h e m = (e ∙ sym h, m, refl)
    all_push b (y ∷ xs) c x h e m = (h.0, h.1, all_push y.to xs c x h.2 e m)

    -- ---- pieces

    -- where some of them end, and the others begin
    record IsSplit (b : ℕ) (xs ys : List Bin) (c : ℕ) : Type 0 where
      at : ℕ
      first : AreSpans i owns plan focus a b xs at
      others : AreSpans i owns plan focus a at ys c

    split : (n b : ℕ) (xs : List Bin) (c : ℕ) → AreSpans i owns plan focus a b xs c → IsSplit b (take n xs) (drop n xs) c
    split zero b xs c h = record { at = b; first = refl; others = h }
    split (suc n) b [] c h = record { at = b; first = refl; others = h }
    split (suc n) b (x ∷ xs) c h =
        let s = split n x.to xs c h.2 in
        record { at = s.at; first = (h.0, h.1, s.first); others = s.others }

    -- what one bin is of
    pub ordered_all : (b : ℕ) (xs : List Bin) (c : ℕ) → AreSpans i owns plan focus a b xs c → b ≤ c
    ordered_all b [] c h = omega (arith, h)
    ordered_all b (x ∷ xs) c h = let m = h.1.ordered in omega (arith, h.0, m, ordered_all x.to xs c h.2)

    past_all : (b : ℕ) (x : Bin) (xs : List Bin) (c : ℕ) → AreSpans i owns plan focus a b (x ∷ xs) c → c ≤ length owns
    past_all b x [] c h = let m = h.1.past in omega (arith, h.2, m)
    past_all b x (y ∷ xs) c h = past_all x.to y xs c h.2

    ends_all : (b : ℕ) (x : Bin) (xs : List Bin) (c : ℕ) → AreSpans i owns plan focus a b (x ∷ xs) c → last_to (x ∷ xs) ≡ c
    ends_all b x [] c h = h.2
    ends_all b x (y ∷ xs) c h = ends_all x.to y xs c h.2

    sums_all : (b : ℕ) (xs : List Bin) (c : ℕ) → AreSpans i owns plan focus a b xs c → sum_by (λ x. x.sum) xs % 2 ^ 64 ≡ measure_at i owns plan (harts_of_focus i focus) a b c
    sums_all b [] c h =
        let z = measure_none (program_of i.image) plan (harts_of_focus i focus) a b owns (start i.image i.settings.harts) in
        sym z ∙ ap (λ (d : ℕ). measure_at i owns plan (harts_of_focus i focus) a b d) h
    sums_all b (x ∷ xs) c h =
        let first : x.sum ≡ measure_at i owns plan (harts_of_focus i focus) a b x.to = h.1.sum ∙ ap (λ (d : ℕ). measure_at i owns plan (harts_of_focus i focus) a d x.to) h.0 in
        let rest = sums_all x.to xs c h.2 in
        let both : (x.sum + sum_by (λ y. y.sum) xs) % 2 ^ 64 ≡ (x.sum + sum_by (λ y. y.sum) xs % 2 ^ 64) % 2 ^ 64 = omega arith in
        ap (λ (v : ℕ). v % 2 ^ 64) (sum_by-cons (λ (y : Bin). y.sum) x xs)
        ∙ (both
        ∙ (ap (λ (v : ℕ). (x.sum + v) % 2 ^ 64) rest
        ∙ (ap (λ (v : ℕ). (v + measure_at i owns plan (harts_of_focus i focus) a x.to c) % 2 ^ 64) first
        ∙ measures_add.times (program_of i.image) plan (harts_of_focus i focus) a b x.to c owns (start i.image i.settings.harts))))

    one_bin : (b : ℕ) (x : Bin) (xs : List Bin) (c : ℕ) → x.from < x.to → AreSpans i owns plan focus a b (x ∷ xs) c → IsMeasured i owns plan focus a (bin_of (x ∷ xs))
    one_bin b x xs c some h =
        let ends = ends_all b x xs c h in
        let past = past_all b x xs c h in
        let ordered = ordered_all x.to xs c h.2 in
        let begins : x.from ≡ b = h.0 in
        record {
          behind = h.1.behind;
          ordered = omega (arith, ends, ordered, some);
          past = omega (arith, ends, past);
          sum = sums_all b (x ∷ xs) c h
              ∙ (ap (λ (d : ℕ). measure_at i owns plan (harts_of_focus i focus) a d c) (sym begins) ∙ ap (λ (d : ℕ). measure_at i owns plan (harts_of_focus i focus) a x.from d) (sym ends));
        }

    pieces_measured : (fuel w b : ℕ) (xs : List Bin) (c : ℕ) → 0 < w → length xs ≤ fuel → NoneEmpty xs → AreSpans i owns plan focus a b xs c
        → AreMeasured i owns plan focus a b (map bin_of (pieces fuel w xs)) c
    pieces_measured zero w b [] c p l n h = h
    pieces_measured zero w b (x ∷ xs) c p l n h = absurd (omega arith)
    pieces_measured (suc fuel) w b [] c p l n h = h
    pieces_measured (suc fuel) zero b (x ∷ xs) c p l n h = absurd (omega arith)
    pieces_measured (suc fuel) (suc w) b (x ∷ xs) c p l n h =
        let s = split w x.to xs c h.2 in
        let some : AreSpans i owns plan focus a b (x ∷ take w xs) s.at = (h.0, h.1, s.first) in
        let few : length (drop w xs) ≤ fuel = omega (arith, length-drop w xs) in
        let ends = ends_all b x (take w xs) s.at some in (
          h.0,
          one_bin b x (take w xs) s.at n.0 some,
          pieces_measured fuel (suc w) (last_to (x ∷ take w xs)) (drop w xs) c p few (none_dropped w xs n.1) (subst (λ (d : ℕ). AreSpans i owns plan focus a d (drop w xs) c) (sym ends) s.others),
        )

    some_width : (fuel c w n : ℕ) → 0 < w → 0 < doubled fuel c w n
    some_width zero c w n p = p
    some_width (suc fuel) c w n p = cond_both (nat_le n (c * w)) w (doubled fuel c (2 * w) n) (λ (v : ℕ). 0 < v) (λ _. p) (λ _. some_width fuel c (2 * w) n (omega arith))

    -- the bins of their histogram
    pub bins_measured : (most b : ℕ) (xs : List Bin) (c : ℕ) → NoneEmpty xs → AreSpans i owns plan focus a b xs c → AreMeasured i owns plan focus a b (hist_of most xs).bins c
    unfolding bins_of width_of
    bins_measured most b xs c n h = pieces_measured (length xs) (width_of most (length xs)) b xs c (some_width (length xs) most 1 (length xs) (omega arith)) (omega arith) n h

    -- ---- where none is empty

    pub all_measured : (b : ℕ) (xs : List Bin) (c : ℕ) → NoneEmpty xs → AreSpans i owns plan focus a b xs c → AreMeasured i owns plan focus a b xs c
    all_measured b [] c n h = h
    all_measured b (x ∷ xs) c n h =
        let m = h.1 in
        (h.0, record { behind = m.behind; ordered = n.0; past = m.past; sum = m.sum }, all_measured x.to xs c n.1 h.2)

    -- some of them end later than they begin
    pub ends_later : (b : ℕ) (xs : List Bin) (c : ℕ) → 1 ≤ length xs → AreMeasured i owns plan focus a b xs c → b < c
    ends_later b [] c l h = absurd (omega arith)
    ends_later b (x ∷ []) c l h = let m = h.1.ordered in omega (arith, h.0, m, h.2)
    ends_later b (x ∷ y ∷ xs) c l h = let m = h.1.ordered in omega (arith, h.0, m, ends_later x.to (y ∷ xs) c (omega arith) h.2)
