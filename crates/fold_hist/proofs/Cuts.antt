-- A list of samples cut into pieces of w, as a relation, and what one sample more and a double width do to it.
use Rattle.std.proofs.Common.{◌≡◌, ◌≢◌, ℕ, zero, suc, ◌+◌, ◌*◌, ◌-◌, ◌%◌, ◌^◌, ◌<◌, ◌≤◌, List, [], ◌∷◌, ◌++◌, length, take, drop, map, sum_by, refl, sym, ap, subst, ◌∙◌, arith, rules, length-append, length-drop}
use Rattle.std.proofs.lemmas.List.{nil_from_length, take-append-le, drop-append-le, take_all, drop_all, drop-drop, length-take}
use Rattle.std.proofs.lemmas.List.Sums.{sum_by-append}
use Rattle.std.proofs.Math.Nat.{add-mod-mod, mod-add-mod, mod-eq_of_lt, add-mod_right}
use Rattle.fold_hist.specs.declared.bin.Bin.{Bin}
use Rattle.fold_hist.specs.Bins.{bin_of, last_to, pieces}
use Rattle.fold_hist.specs.Steps.{bins_joined, paired, with_last}

abbrev pub IsCut : ℕ → List (List Bin) → List Bin → Type 0
IsCut w [] xs = xs ≡ []
IsCut w (g ∷ gs) xs = (0 < length xs) × (g ≡ take w xs) × IsCut w gs (drop w xs)

-- ---- the pieces are a cut, and the only one

pub cut_pieces : (fuel w : ℕ) (xs : List Bin) → length xs ≤ fuel → 0 < w → IsCut w (pieces fuel w xs) xs
cut_pieces zero w xs h p = nil_from_length xs (omega arith)
cut_pieces (suc fuel) w [] h p = refl
cut_pieces (suc fuel) w (x ∷ xs) h p =
    let l : length (drop w (x ∷ xs)) ≤ fuel = omega (arith, length-drop w (x ∷ xs)) in
    (omega arith, refl, cut_pieces fuel w (drop w (x ∷ xs)) l p)

pub one_cut : (gs hs : List (List Bin)) (w : ℕ) (xs : List Bin) → IsCut w gs xs → IsCut w hs xs → gs ≡ hs
one_cut [] [] w xs a b = refl
one_cut [] (h ∷ hs) w xs a b = absurd (omega (arith, ap length a, b.0))
one_cut (g ∷ gs) [] w xs a b = absurd (omega (arith, ap length b, a.0))
one_cut (g ∷ gs) (h ∷ hs) w xs a b =
    let e : gs ≡ hs = one_cut gs hs w (drop w xs) a.2 b.2 in
    let f : g ≡ h = a.1 ∙ sym b.1 in
    cc

-- ---- one sample more

less : (n w : ℕ) → w ≤ n → (n - w) % w ≡ n % w
less n w h =
    let e : (n - w) + w ≡ n = omega arith in
    sym (add-mod_right (n - w) w) ∙ ap (λ (k : ℕ). k % w) e

pub whole : (n w : ℕ) → n % w ≡ 0 → 0 < n → w ≤ n
whole n w h p = grind (arith, mod-eq_of_lt {n = n} {m = w})

pub new_piece : (gs : List (List Bin)) (w : ℕ) (xs : List Bin) (x : Bin) → 0 < w → length xs % w ≡ 0 → IsCut w gs xs → IsCut w (gs ++ (x ∷ []) ∷ []) (xs ++ x ∷ [])
new_piece [] w xs x p m e =
    subst (λ (ys : List Bin). IsCut w ((x ∷ []) ∷ []) (ys ++ x ∷ [])) (sym e)
    (omega arith, sym (take_all w (x ∷ []) (omega arith)), drop_all w (x ∷ []) (omega arith))
new_piece (g ∷ gs) w xs x p m e =
    let l : w ≤ length xs = whole (length xs) w m e.0 in
    let m' : length (drop w xs) % w ≡ 0 = ap (λ (k : ℕ). k % w) (length-drop w xs) ∙ less (length xs) w l ∙ m in (
      omega (arith, length-append xs (x ∷ [])),
      e.1 ∙ sym (take-append-le w xs (x ∷ []) l),
      subst (IsCut w (gs ++ (x ∷ []) ∷ [])) (sym (drop-append-le w xs (x ∷ []) l)) (new_piece gs w (drop w xs) x p m' e.2),
    )

-- the last piece with one sample more
abbrev pub more : List (List Bin) → Bin → List (List Bin)
more [] x = []
more (g ∷ []) x = (g ++ x ∷ []) ∷ []
more (g ∷ g' ∷ gs) x = g ∷ more (g' ∷ gs) x

pub more_last : (gs : List (List Bin)) (w : ℕ) (xs : List Bin) (x : Bin) → 0 < w → length xs % w ≢ 0 → IsCut w gs xs → IsCut w (more gs x) (xs ++ x ∷ [])
more_last [] w xs x p m e = absurd (m (ap (λ (ys : List Bin). length ys % w) e ∙ mod-eq_of_lt {n = 0} {m = w} p))
more_last (g ∷ []) w xs x p m e =
    let s : length xs ≤ w = omega (arith, length-drop w xs, ap length e.2) in
    let n : length xs ≢ w = λ (k : length xs ≡ w). m (ap (λ (j : ℕ). j % w) k ∙ search (rules, add-mod_right 0 w)) in
    let l : length (xs ++ x ∷ []) ≤ w = omega (arith, length-append xs (x ∷ [])) in
    (omega (arith, length-append xs (x ∷ [])), ap (λ (ys : List Bin). ys ++ x ∷ []) (e.1 ∙ take_all w xs s) ∙ sym (take_all w (xs ++ x ∷ []) l), drop_all w (xs ++ x ∷ []) l)
more_last (g ∷ g' ∷ gs) w xs x p m e =
    let l : w ≤ length xs = omega (arith, length-drop w xs, e.2.0) in
    let m' : length (drop w xs) % w ≢ 0 = λ (k : length (drop w xs) % w ≡ 0). m (sym (less (length xs) w l) ∙ sym (ap (λ (j : ℕ). j % w) (length-drop w xs)) ∙ k) in (
      omega (arith, length-append xs (x ∷ [])),
      e.1 ∙ sym (take-append-le w xs (x ∷ []) l),
      subst (IsCut w (more (g' ∷ gs) x)) (sym (drop-append-le w xs (x ∷ []) l)) (more_last (g' ∷ gs) w (drop w xs) x p m' e.2),
    )

-- ---- the double width

abbrev pub two_by_two : List (List Bin) → List (List Bin)
two_by_two [] = []
two_by_two (g ∷ []) = g ∷ []
two_by_two (g ∷ h ∷ gs) = (g ++ h) ∷ two_by_two gs

take-both : (v w : ℕ) (xs : List Bin) → take v xs ++ take w (drop v xs) ≡ take (v + w) xs
take-both zero w xs = let e : 0 + w ≡ w = omega arith in ap (λ (k : ℕ). take k xs) (sym e)
take-both (suc v) w [] = take_all w [] (omega arith) ∙ sym (take_all (suc v + w) [] (omega arith))
take-both (suc v) w (x ∷ xs) =
    let e : suc v + w ≡ suc (v + w) = omega arith in
    ap (λ (l : List Bin). x ∷ l) (take-both v w xs) ∙ ap (λ (k : ℕ). take k (x ∷ xs)) (sym e)

pub doubles : (gs : List (List Bin)) (w : ℕ) (xs : List Bin) → IsCut w gs xs → IsCut (2 * w) (two_by_two gs) xs
doubles [] w xs e = e
doubles (g ∷ []) w xs e =
    let s : length xs ≤ w = omega (arith, length-drop w xs, ap length e.2) in
    (e.0, e.1 ∙ take_all w xs s ∙ sym (take_all (2 * w) xs (omega arith)), drop_all (2 * w) xs (omega arith))
doubles (g ∷ h ∷ gs) w xs e =
    let two : w + w ≡ 2 * w = omega arith in
    let both : g ++ h ≡ take (2 * w) xs = ap (λ (k : List Bin). k ++ h) e.1 ∙ ap (λ (k : List Bin). take w xs ++ k) e.2.1 ∙ take-both w w xs ∙ ap (λ (k : ℕ). take k xs) two in
    let rest : drop w (drop w xs) ≡ drop (2 * w) xs = drop-drop w w xs ∙ ap (λ (k : ℕ). drop k xs) two in
    (e.0, both, subst (IsCut (2 * w) (two_by_two gs)) rest (doubles gs w (drop w (drop w xs)) e.2.2))

-- ---- how many pieces

pub full_pieces : (gs : List (List Bin)) (w : ℕ) (xs : List Bin) → length xs % w ≡ 0 → IsCut w gs xs → length gs * w ≡ length xs
full_pieces [] w xs m e = omega (arith, ap length e)
full_pieces (g ∷ gs) w xs m e =
    let l : w ≤ length xs = whole (length xs) w m e.0 in
    let m' : length (drop w xs) % w ≡ 0 = ap (λ (k : ℕ). k % w) (length-drop w xs) ∙ less (length xs) w l ∙ m in
    let h : length gs * w ≡ length (drop w xs) = full_pieces gs w (drop w xs) m' e.2 in
    grind (arith, length-drop w xs)

-- ---- the bins of the pieces

last-append : (xs : List Bin) (y : Bin) (ys : List Bin) → last_to (xs ++ y ∷ ys) ≡ last_to (y ∷ ys)
last-append [] y ys = refl
last-append (x ∷ []) y ys = refl
last-append (x ∷ x' ∷ xs) y ys = last-append (x' ∷ xs) y ys

sum-both : (a b : ℕ) → (a + b) % 2 ^ 64 ≡ (a % 2 ^ 64 + b % 2 ^ 64) % 2 ^ 64
sum-both a b = sym (mod-add-mod a (2 ^ 64) (b % 2 ^ 64) ∙ add-mod-mod a b (2 ^ 64))

pub bin_both : (g h : List Bin) → 0 < length g → 0 < length h → bin_of (g ++ h) ≡ bins_joined (bin_of g) (bin_of h)
bin_both [] h p q = absurd (omega arith)
bin_both (x ∷ g) [] p q = absurd (omega arith)
bin_both (x ∷ g) (y ∷ h) p q =
    let l : last_to (x ∷ g ++ y ∷ h) ≡ last_to (y ∷ h) = last-append (x ∷ g) y h in
    let s : sum_by (λ (b : Bin). b.sum) (x ∷ g ++ y ∷ h) % 2 ^ 64 ≡ (sum_by (λ (b : Bin). b.sum) (x ∷ g) % 2 ^ 64 + sum_by (λ (b : Bin). b.sum) (y ∷ h) % 2 ^ 64) % 2 ^ 64 =
    ap (λ (k : ℕ). k % 2 ^ 64) (sum_by-append (λ (b : Bin). b.sum) (x ∷ g) (y ∷ h)) ∙ sum-both (sum_by (λ (b : Bin). b.sum) (x ∷ g)) (sum_by (λ (b : Bin). b.sum) (y ∷ h)) in
    cc

long : (w : ℕ) (xs : List Bin) → 0 < w → 0 < length xs → 0 < length (take w xs)
long w xs p q = omega (arith, length-take w xs)

pub bins_paired : (gs : List (List Bin)) (w : ℕ) (xs : List Bin) → 0 < w → IsCut w gs xs → map bin_of (two_by_two gs) ≡ paired (map bin_of gs)
bins_paired [] w xs p e = refl
bins_paired (g ∷ []) w xs p e = refl
bins_paired (g ∷ h ∷ gs) w xs p e =
    let lg : 0 < length g = subst (λ (k : List Bin). 0 < length k) (sym e.1) (long w xs p e.0) in
    let lh : 0 < length h = subst (λ (k : List Bin). 0 < length k) (sym e.2.1) (long w (drop w xs) p e.2.0) in
    let a : bin_of (g ++ h) ≡ bins_joined (bin_of g) (bin_of h) = bin_both g h lg lh in
    let b : map bin_of (two_by_two gs) ≡ paired (map bin_of gs) = bins_paired gs w (drop w (drop w xs)) p e.2.2 in
    cc

pub bins_more : (gs : List (List Bin)) (w : ℕ) (xs : List Bin) (x : Bin) → 0 < w → IsCut w gs xs → map bin_of (more gs x) ≡ with_last (map bin_of gs) (bin_of (x ∷ []))
bins_more [] w xs x p e = refl
bins_more (g ∷ []) w xs x p e =
    let lg : 0 < length g = subst (λ (k : List Bin). 0 < length k) (sym e.1) (long w xs p e.0) in
    ap (λ (b : Bin). b ∷ []) (bin_both g (x ∷ []) lg (omega arith))
bins_more (g ∷ g' ∷ gs) w xs x p e = ap (λ (bs : List Bin). bin_of g ∷ bs) (bins_more (g' ∷ gs) w (drop w xs) x p e.2)
