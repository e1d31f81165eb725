-- Rows stand in order.
use Rattle.std.proofs.Common.{◌≡◌, ℕ, zero, suc, ◌+◌, ◌<◌, ◌≤◌, List, [], ◌∷◌, length, get_or, map, true, false, cond, leb, Option, Some, None, inl, inr, sym, subst, ⊎_elim, arith}
use Rattle.std.specs.List.{AllAdjacentBelow}
use Rattle.std.proofs.lemmas.Bool.{cases_lt}
use Rattle.std.proofs.lemmas.Bool.Decides.{nat_tests}
use Rattle.pn_types.specs.declared.code.Proc.{Proc}
use Rattle.pn_types.specs.declared.image.Image.{Image}
use Rattle.word_counts.specs.declared.profile.Profile.{Profile}
use Rattle.profile_text.specs.Finding.{DoAscend}
use Rattle.profile_text.specs.Laws.{Precedes}
use Rattle.profile_text.specs.Rows.{Row, by_ticks, insert_by_ticks, procedure_row, rows_of}
use Rattle.profile_text.proofs.Ascending.{Follow, follows}

-- all start above an address
abbrev Above : ℕ → List Row → Type 0
Above s [] = Unit {0}
Above s (y ∷ ys) = (s < y.proc.start) × Above s ys

abbrev Before : Option Row → Row → Type 0
Before None x = Unit {0}
Before (Some y) x = Precedes y x

-- each precedes the next, and the first is preceded by a row, where there is one
abbrev Ordered : Option Row → List Row → Type 0
Ordered before [] = Unit {0}
Ordered before (x ∷ xs) = Before before x × Ordered (Some x) xs

-- by whether y stays before x
by_ticks_of : (P : List Row → Type 0) (x y : Row) (ys : List Row) → (y.ticks ≤ x.ticks → P (x ∷ (y ∷ ys))) → (x.ticks < y.ticks → P (y ∷ insert_by_ticks x ys))
    → P (insert_by_ticks x (y ∷ ys))
by_ticks_of P x y ys f g =
    ⊎_elim
    (λ (m : x.ticks < y.ticks).
    let e : leb y.ticks x.ticks ≡ false = grind (arith, nat_tests) in
    subst (λ b. P (cond b (x ∷ (y ∷ ys)) (y ∷ insert_by_ticks x ys))) (sym e) (g m))
    (λ (m : y.ticks ≤ x.ticks).
    let e : leb y.ticks x.ticks ≡ true = grind (arith, nat_tests) in
    subst (λ b. P (cond b (x ∷ (y ∷ ys)) (y ∷ insert_by_ticks x ys))) (sym e) (f m))
    (cases_lt x.ticks y.ticks)

insert-above : (s : ℕ) (x : Row) (ys : List Row) → s < x.proc.start → Above s ys → Above s (insert_by_ticks x ys)
insert-above s x [] l h = (l, tt)
insert-above s x (y ∷ ys) l h = by_ticks_of (Above s) x y ys (λ m. (l, h)) (λ m. (h.0, insert-above s x ys l h.1))

above-by_ticks : (s : ℕ) (xs : List Row) → Above s xs → Above s (by_ticks xs)
above-by_ticks s [] h = tt
above-by_ticks s (x ∷ xs) h = insert-above s x (by_ticks xs) h.0 (above-by_ticks s xs h.1)

precedes : (x y : Row) → y.ticks ≤ x.ticks → x.proc.start < y.proc.start → Precedes x y
precedes x y l s = ⊎_elim (λ (m : y.ticks < x.ticks). inl m) (λ (m : x.ticks ≤ y.ticks). inr (omega arith, s)) (cases_lt y.ticks x.ticks)

insert-ordered : (before : Option Row) (x : Row) (ys : List Row) → Before before x → Above x.proc.start ys → Ordered before ys → Ordered before (insert_by_ticks x ys)
insert-ordered before x [] b a h = (b, tt)
insert-ordered before x (y ∷ ys) b a h =
    by_ticks_of (Ordered before) x y ys
    (λ m. (b, (precedes x y m a.0, h.1)))
    (λ m. (h.0, insert-ordered (Some y) x ys (inl m) a.1 h.1))

starts_above : (image : Image) (r : Profile) (s k : ℕ) (ps : List Proc) → s < k → Follow k ps → Above s (map (procedure_row image r) ps)
starts_above image r s k [] l h = tt
starts_above image r s k (p ∷ ps) l h = (omega (arith, h.0), starts_above image r s (p.start + p.len) ps (omega (arith, h.0)) h.2)

ordered : (image : Image) (r : Profile) (k : ℕ) (ps : List Proc) → Follow k ps → Ordered None (by_ticks (map (procedure_row image r) ps))
ordered image r k [] h = tt
ordered image r k (p ∷ ps) h =
    let l = h.1 in
    let rows = map (procedure_row image r) ps in
    insert-ordered None (procedure_row image r p) (by_ticks rows) tt
    (above-by_ticks p.start rows (starts_above image r p.start (p.start + p.len) ps (omega arith) h.2))
    (ordered image r (p.start + p.len) ps h.2)

adjacent : (before : Option Row) (xs : List Row) → Ordered before xs → AllAdjacentBelow Precedes xs (length xs)
adjacent before [] h k d l = absurd (omega arith)
adjacent before (x ∷ []) h k d l = absurd (omega arith)
adjacent before (x ∷ (y ∷ ys)) h zero d l = h.1.0
adjacent before (x ∷ (y ∷ ys)) h (suc k) d l =
    let e : suc k + 1 ≡ suc (k + 1) = omega arith in
    subst (λ i. Precedes (get_or (y ∷ ys) k d) (get_or (x ∷ (y ∷ ys)) i d)) (sym e) (adjacent (Some x) (y ∷ ys) h.1 k d (omega arith))

pub rows_ordered : (image : Image) (procs : List Proc) (r : Profile) → DoAscend procs → AllAdjacentBelow Precedes (rows_of image procs r) (length (rows_of image procs r))
rows_ordered image procs r h = adjacent None (rows_of image procs r) (ordered image r 0 procs (follows procs h))
