-- One sample more makes the histogram of one sample more.
use Rattle.std.proofs.Common.{◌≡◌, ◌≢◌, ℕ, zero, suc, ◌+◌, ◌*◌, ◌%◌, ◌^◌, ◌<◌, ◌≤◌, Bool, true, false, cond, List, [], ◌∷◌, ◌++◌, length, map, sum_by, take, drop, Some, None, length-drop, append_assoc, refl, sym, ap, subst, ◌∙◌, arith, inl, inr}
use Rattle.std.specs.Prelude.{nat_eq, slice_get}
use Rattle.std.specs.List.{fold, AllByRecursion}
use Rattle.std.proofs.lemmas.Bool.{cases_lt, eqb-true, eqb-false}
use Rattle.std.proofs.lemmas.List.{append-nil, length_push, map-append, length-map, drop-drop}
use Rattle.std.proofs.Math.Nat.{mod-eq_of_lt}
use Rattle.std.proofs.lemmas.Nat.{mul-le}
use Rattle.fold_hist.specs.declared.bin.Bin.{Bin}
use Rattle.fold_hist.specs.Bins.{Histogram, IsHistogram, hist_of, bin_of, bins_of, pieces, width_of, IsWidth}
use Rattle.fold_hist.specs.Steps.{paired, with_last}
use Rattle.fold_hist.specs.Steps.{pushed as one_more, with_room, with_sample}
use Rattle.fold_hist.proofs.Cuts.{IsCut, cut_pieces, one_cut, new_piece, more, more_last, two_by_two, doubles, full_pieces, bins_paired, bins_more}
use Rattle.fold_hist.proofs.Widths.{is_width, wide_enough, grows, positive, not_too_wide}

-- ---- the bins of one width

cut_of : (w : ℕ) (xs : List Bin) → 0 < w → IsCut w (pieces (length xs) w xs) xs
cut_of w xs p = cut_pieces (length xs) w xs (omega arith) p

-- the bins of any cut
bins_by : (gs : List (List Bin)) (w : ℕ) (xs : List Bin) → 0 < w → IsCut w gs xs → bins_of w xs ≡ map bin_of gs
unfolding bins_of
bins_by gs w xs p e = ap (map bin_of) (one_cut (pieces (length xs) w xs) gs w xs (cut_of w xs p) e)

bins_doubled : (w : ℕ) (xs : List Bin) → 0 < w → bins_of (2 * w) xs ≡ paired (bins_of w xs)
bins_doubled w xs p =
    let gs = pieces (length xs) w xs in
    bins_by (two_by_two gs) (2 * w) xs (omega arith) (doubles gs w xs (cut_of w xs p))
    ∙ bins_paired gs w xs p (cut_of w xs p)
    ∙ ap paired (sym (bins_by gs w xs p (cut_of w xs p)))

alone : (x : Bin) → x.sum < 2 ^ 64 → bin_of (x ∷ []) ≡ x
alone x h =
    let e : sum_by (λ (b : Bin). b.sum) (x ∷ []) % 2 ^ 64 ≡ x.sum = omega (arith, mod-eq_of_lt h) in
    ap (λ (s : ℕ). record x { sum = s }) e

bins_alone : (w : ℕ) (xs : List Bin) (x : Bin) → 0 < w → length xs % w ≡ 0 → x.sum < 2 ^ 64 → bins_of w (xs ++ x ∷ []) ≡ bins_of w xs ++ x ∷ []
bins_alone w xs x p m h =
    let gs = pieces (length xs) w xs in
    bins_by (gs ++ (x ∷ []) ∷ []) w (xs ++ x ∷ []) p (new_piece gs w xs x p m (cut_of w xs p))
    ∙ map-append bin_of gs ((x ∷ []) ∷ [])
    ∙ ap (λ (b : Bin). map bin_of gs ++ b ∷ []) (alone x h)
    ∙ ap (λ (bs : List Bin). bs ++ x ∷ []) (sym (bins_by gs w xs p (cut_of w xs p)))

bins_shared : (w : ℕ) (xs : List Bin) (x : Bin) → 0 < w → length xs % w ≢ 0 → x.sum < 2 ^ 64 → bins_of w (xs ++ x ∷ []) ≡ with_last (bins_of w xs) x
bins_shared w xs x p m h =
    let gs = pieces (length xs) w xs in
    bins_by (more gs x) w (xs ++ x ∷ []) p (more_last gs w xs x p m (cut_of w xs p))
    ∙ bins_more gs w xs x p (cut_of w xs p)
    ∙ ap (with_last (map bin_of gs)) (alone x h)
    ∙ ap (λ (bs : List Bin). with_last bs x) (sym (bins_by gs w xs p (cut_of w xs p)))

-- ---- a push

-- the histogram of some samples that has room for one more
abbrev roomy : ℕ → List Bin → Histogram
roomy c xs = record { most = c; count = length xs; width = width_of c (length xs + 1); bins = bins_of (width_of c (length xs + 1)) xs }

room_made : (c : ℕ) (xs : List Bin) → 1 ≤ c → with_room (hist_of c xs) ≡ roomy c xs
room_made c xs p = by (nat_eq (length xs) (c * width_of c (length xs))) refl
  where
    w : ℕ
    w = width_of c (length xs)

    by : (b : Bool) → nat_eq (length xs) (c * width_of c (length xs)) ≡ b
        → record { most = c; count = length xs; width = cond b (2 * width_of c (length xs)) (width_of c (length xs)); bins = cond b (paired (bins_of (width_of c (length xs)) xs)) (bins_of (width_of c (length xs)) xs) } ≡ roomy c xs
    by true t =
        let e = grows c (length xs) p (eqb-true (length xs) (c * width_of c (length xs)) t) in
        ap (λ (bs : List Bin). record { most = c; count = length xs; width = 2 * width_of c (length xs); bins = bs }) (sym (bins_doubled (width_of c (length xs)) xs (positive c (length xs) p)))
        ∙ ap (λ (v : ℕ). record { most = c; count = length xs; width = v; bins = bins_of v xs }) (sym e)
    by false t =
        let n : length xs ≢ c * width_of c (length xs) = eqb-false (length xs) (c * width_of c (length xs)) t in
        let f : length xs + 1 ≤ c * width_of c (length xs) = omega (arith, (is_width c (length xs) p).fits) in
        let e = wide_enough c (length xs) p f in
        ap (λ (v : ℕ). record { most = c; count = length xs; width = v; bins = bins_of v xs }) (sym e)

sample_put : (c : ℕ) (xs : List Bin) (x : Bin) → 1 ≤ c → x.sum < 2 ^ 64 → with_sample (roomy c xs) x ≡ hist_of c (xs ++ x ∷ [])
sample_put c xs x p h = by (nat_eq (length xs % width_of c (length xs + 1)) 0) refl
  where
    len : length (xs ++ x ∷ []) ≡ length xs + 1
    len = length_push xs x

    all : (bs : List Bin) → bins_of (width_of c (length xs + 1)) (xs ++ x ∷ []) ≡ bs
        → record { most = c; count = length xs + 1; width = width_of c (length xs + 1); bins = bs } ≡ hist_of c (xs ++ x ∷ [])
    all bs e =
        ap (λ (l : List Bin). record { most = c; count = length xs + 1; width = width_of c (length xs + 1); bins = l }) (sym e)
        ∙ ap (λ (n : ℕ). record { most = c; count = n; width = width_of c n; bins = bins_of (width_of c n) (xs ++ x ∷ []) }) (sym len)

    by : (b : Bool) → nat_eq (length xs % width_of c (length xs + 1)) 0 ≡ b
        → record { most = c; count = length xs + 1; width = width_of c (length xs + 1); bins = cond b (bins_of (width_of c (length xs + 1)) xs ++ x ∷ []) (with_last (bins_of (width_of c (length xs + 1)) xs) x) } ≡ hist_of c (xs ++ x ∷ [])
    by true t = all (bins_of (width_of c (length xs + 1)) xs ++ x ∷ []) (bins_alone (width_of c (length xs + 1)) xs x (positive c (length xs + 1) p) (eqb-true (length xs % width_of c (length xs + 1)) 0 t) h)
    by false t = all (with_last (bins_of (width_of c (length xs + 1)) xs) x) (bins_shared (width_of c (length xs + 1)) xs x (positive c (length xs + 1) p) (eqb-false (length xs % width_of c (length xs + 1)) 0 t) h)

-- The histogram of one sample more.
pub pushed : (h : Histogram) (xs : List Bin) (x : Bin) → 1 ≤ h.most → x.sum < 2 ^ 64 → h ≡ hist_of h.most xs
    → with_sample (with_room h) x ≡ hist_of h.most (xs ++ x ∷ [])
pushed h xs x p s e =
    ap (λ (k : Histogram). with_sample (with_room k) x) e
    ∙ ap (λ (k : Histogram). with_sample k x) (room_made h.most xs p)
    ∙ sample_put h.most xs x p s

-- the histogram of some samples, and of one more
pub pushed_is : (c : ℕ) (xs : List Bin) (x : Bin) → 1 ≤ c → x.sum < 2 ^ 64 → one_more (hist_of c xs) x ≡ hist_of c (xs ++ x ∷ [])
unfolding one_more
pushed_is c xs x p s = pushed (hist_of c xs) xs x p s refl

pub all_pushed : (c : ℕ) (front xs : List Bin) → 1 ≤ c → AllByRecursion (λ x. x.sum < 2 ^ 64) xs → fold one_more (hist_of c front) xs ≡ hist_of c (front ++ xs)
all_pushed c front [] p fits = ap (hist_of c) (sym (append-nil front))
all_pushed c front (x ∷ xs) p fits =
    ap (λ (h : Histogram). fold one_more h xs) (pushed_is c front x p fits.0)
    ∙ all_pushed c (front ++ x ∷ []) xs p fits.1
    ∙ ap (hist_of c) (append_assoc front (x ∷ []) xs)

-- ---- what a push needs

-- a new bin has room
pub has_room : (h : Histogram) → IsHistogram h → (with_room h).count % (with_room h).width ≡ 0 → length (with_room h).bins < h.most
unfolding bins_of
has_room h is m =
    let c = h.most in
    let xs = is.samples in
    let e : with_room h ≡ roomy c xs = ap with_room is.made ∙ room_made c xs is.some in
    let w = width_of c (length xs + 1) in
    let m' : length xs % w ≡ 0 = subst (λ (k : Histogram). k.count % k.width ≡ 0) e m in
    let pw : 0 < w = positive c (length xs + 1) is.some in
    let full : length (pieces (length xs) w xs) * w ≡ length xs = full_pieces (pieces (length xs) w xs) w xs m' (cut_of w xs pw) in
    let fits : length xs + 1 ≤ c * w = (is_width c (length xs + 1) is.some).fits in
    let few : length (pieces (length xs) w xs) < c = under (length (pieces (length xs) w xs)) c w (omega arith) in
    subst (λ (k : Histogram). length k.bins < c) (sym e) (omega (arith, length-map (pieces (length xs) w xs) bin_of))
  where
    under : (a c w : ℕ) → a * w < c * w → a < c
    under a c w l = elim (cases_lt a c) [ inl k ↦ k | inr k ↦ absurd (omega (arith, l, mul-le c w a w k (omega arith))) ]

-- the numbers stay in their types
pub in_range : (h : Histogram) → IsHistogram h → h.most < 2 ^ 32 → h.count < 2 ^ 32 → (h.most * h.width < 2 ^ 63) × (h.width < 2 ^ 63)
in_range h is b d =
    let n : h.count ≡ length is.samples = ap (λ (k : Histogram). k.count) is.made in
    let w : h.width ≡ width_of h.most (length is.samples) = ap (λ (k : Histogram). k.width) is.made in
    let v = width_of h.most (length is.samples) in
    let bound : h.most * v < 2 ^ 63 =
    elim (not_too_wide h.most (length is.samples) is.some) [ inl few ↦ omega arith | inr many ↦ omega arith ] in
    let one : 1 * v ≤ h.most * v = mul-le 1 v h.most v is.some (omega arith) in
    subst (λ (k : ℕ). (h.most * k < 2 ^ 63) × (k < 2 ^ 63)) (sym w) (bound, omega arith)

pub wide : (h : Histogram) → IsHistogram h → 0 < (with_room h).width
wide h is = subst (λ (k : Histogram). 0 < k.width) (sym (ap with_room is.made ∙ room_made h.most is.samples is.some)) (positive h.most (length is.samples + 1) is.some)

-- the fields after a push, as the code finds them
pub fields_are : (h : Histogram) (v : ℕ) (folded : List Bin) (w : ℕ) (put : List Bin) (x : Bin) → v ≡ (with_room h).width → folded ≡ (with_room h).bins
    → w ≡ v → put ≡ cond (nat_eq (h.count % v) 0) (folded ++ x ∷ []) (with_last folded x)
    → record { most = h.most; count = h.count + 1; width = w; bins = put } ≡ with_sample (with_room h) x
fields_are h v folded w put x a b d e = cc

-- ---- which samples a bin has

pieces_at : (fuel w i : ℕ) (xs : List Bin) → length xs ≤ fuel → 0 < w → i * w < length xs → slice_get (map bin_of (pieces fuel w xs)) i ≡ Some (bin_of (take w (drop (i * w) xs)))
pieces_at zero w i xs h p l = absurd (omega arith)
pieces_at (suc fuel) w i [] h p l = absurd (omega arith)
pieces_at (suc fuel) w zero (x ∷ xs) h p l =
    let none : 0 * w ≡ 0 = omega arith in
    ap (λ (k : ℕ). Some (bin_of (take w (drop k (x ∷ xs))))) (sym none)
pieces_at (suc fuel) w (suc i) (x ∷ xs) h p l =
    let n : w + i * w ≡ suc i * w = omega arith in
    let rest = length-drop w (x ∷ xs) in
    pieces_at fuel w i (drop w (x ∷ xs)) (omega arith) p (omega arith)
    ∙ ap (λ (ys : List Bin). Some (bin_of (take w ys))) (drop-drop (i * w) w (x ∷ xs) ∙ ap (λ (k : ℕ). drop k (x ∷ xs)) n)

pieces_past : (fuel w i : ℕ) (xs : List Bin) → length xs ≤ fuel → 0 < w → length xs ≤ i * w → slice_get (map bin_of (pieces fuel w xs)) i ≡ None
pieces_past zero w i xs h p l = refl
pieces_past (suc fuel) w i [] h p l = refl
pieces_past (suc fuel) w zero (x ∷ xs) h p l = absurd (omega arith)
pieces_past (suc fuel) w (suc i) (x ∷ xs) h p l =
    let n : w + i * w ≡ suc i * w = omega arith in
    let rest = length-drop w (x ∷ xs) in
    pieces_past fuel w i (drop w (x ∷ xs)) (omega arith) p (omega arith)

pub bin_at : (w i : ℕ) (xs : List Bin) → 0 < w
    → (i * w < length xs → slice_get (bins_of w xs) i ≡ Some (bin_of (take w (drop (i * w) xs)))) × (length xs ≤ i * w → slice_get (bins_of w xs) i ≡ None)
unfolding bins_of
bin_at w i xs p = (λ l. pieces_at (length xs) w i xs (omega arith) p l, λ l. pieces_past (length xs) w i xs (omega arith) p l)

pub least : (h : Histogram) → IsHistogram h → IsWidth h.most h.count h.width
least h is =
    subst (λ (k : Histogram). IsWidth h.most k.count k.width) (sym is.made) (is_width h.most (length is.samples) is.some)
