-- The places of points, by procedure and in order.
use Rattle.std.proofs.Common.{◌≡◌, ℕ, ◌+◌, ◌<◌, ◌≤◌, ◌==◌, ◌||◌, eqb, Bool, true, false, Some, List, [], ◌∷◌, ◌++◌, length, map, set, take, get_or, slice_get, refl, sym, ap, ◌∙◌, subst, arith, inl, inr, ◌⊎◌, eq-eqb}
use Rattle.std.specs.Prelude.{option_to_list}
use Rattle.std.specs.List.{Contains, dedup, list_any}
use Rattle.std.specs.List.Sorted.{IsPermutation}
use Rattle.std.proofs.lemmas.Bool.{cases_eq, cases_lt, eqb-true}
use Rattle.std.proofs.lemmas.List.{take_more, append-nil, length_push, length-map, length-take-le, length-set, get_or-map, map-set, get_or-set_same, get_or-set_other}
use Rattle.std.proofs.lemmas.List.Concat.{flat_map-append}
use Rattle.std.proofs.lemmas.List.Folds.{Any-from_list_any, list_any-append, list_any_at}
use Rattle.std.proofs.lemmas.List.Kept.{Contains-dedup_nat}
use Rattle.std.proofs.lemmas.List.Sorted.{list_any-IsPermutation}
use Rattle.std.proofs.lemmas.Option.{slice_get-get_or, slice_get_past, slice_get_within}
use Rattle.pn_types.specs.declared.code.Point.{Point}
use Rattle.mdl_plan.specs.Indexes.{AreByProcedure, gathered, with_point_place}
use Rattle.mdl_plan.proofs.Elements.{get_within, get_behind}

-- what stands in a list stands in it once it is sorted and has each number once
pub once_each : (xs ys : List ℕ) (i : ℕ) → IsPermutation xs ys → list_any (λ j. j == i) xs ≡ true → list_any (λ j. j == i) (dedup eqb ys) ≡ true
once_each xs ys i moved there =
    let found = Any-from_list_any (λ j. j == i) ys (sym (list_any-IsPermutation (λ j. j == i) xs ys moved) ∙ there) in
    let is : found.1 ≡ i = eqb-true found.1 i found.4 in
    let kept : Contains (dedup eqb ys) i = Contains-dedup_nat ys i (found.0, found.2, subst (λ (x : ℕ). get_or ys found.0 x ≡ x) is found.3) in
    list_any_at (λ j. j == i) (dedup eqb ys) kept.0 i kept.1 (eq-eqb (get_or (dedup eqb ys) kept.0 i) i kept.2)

or_true : (b : Bool) → (b || true) ≡ true
or_true true = refl
or_true false = refl

-- a list with one more number has that number, and what it had
has_last : (l : List ℕ) (n i : ℕ) → n ≡ i → list_any (λ j. j == i) (l ++ n ∷ []) ≡ true
has_last l n i same =
    list_any-append (λ j. j == i) l (n ∷ [])
    ∙ ap (λ (b : Bool). list_any (λ j. j == i) l || (b || false)) (eq-eqb n i same) ∙ or_true (list_any (λ j. j == i) l)

has_still : (l : List ℕ) (n i : ℕ) → list_any (λ j. j == i) l ≡ true → list_any (λ j. j == i) (l ++ n ∷ []) ≡ true
has_still l n i there = list_any-append (λ j. j == i) l (n ∷ []) ∙ ap (λ (b : Bool). b || ((n == i) || false)) there

-- one more point
place_more : (points : List Point) (p : Point) (places : List (List ℕ)) → AreByProcedure points places → AreByProcedure (points ++ p ∷ []) (with_point_place p.proc_no (length points) places)
place_more points p places h i r at lt = by (cases_lt i (length points)) (cases_eq r.proc_no p.proc_no)
  where
    n : ℕ
    n = length points

    more : List ℕ
    more = get_or places p.proc_no [] ++ n ∷ []

    fits : r.proc_no < length places
    fits = subst (λ (k : ℕ). r.proc_no < k) (length-set places p.proc_no more) lt

    here : r.proc_no ≡ p.proc_no → get_or (set places p.proc_no more) r.proc_no [] ≡ more
    here same = ap (λ (k : ℕ). get_or (set places p.proc_no more) k []) same ∙ get_or-set_same places p.proc_no more [] (subst (λ (k : ℕ). k < length places) same fits)

    by : (i < n) ⊎ (n ≤ i) → (r.proc_no ≡ p.proc_no) ⊎ (r.proc_no ≡ p.proc_no → ⊥) → list_any (λ j. j == i) (get_or (set places p.proc_no more) r.proc_no []) ≡ true
    by (inl before) (inl same) =
        let there = h i r (sym (get_within points p i before) ∙ at) fits in
        ap (list_any (λ j. j == i)) (here same)
        ∙ has_still (get_or places p.proc_no []) n i (subst (λ (k : ℕ). list_any (λ j. j == i) (get_or places k []) ≡ true) same there)
    by (inl before) (inr other) =
        ap (list_any (λ j. j == i)) (get_or-set_other places p.proc_no r.proc_no more [] other) ∙ h i r (sym (get_within points p i before) ∙ at) fits
    by (inr past) same =
        let last : n ≡ i = omega (arith, past, slice_get_within (points ++ p ∷ []) i r at, length_push points p) in
        let is : Some p ≡ Some r = sym (get_behind points p []) ∙ ap (slice_get (points ++ p ∷ [])) last ∙ at in
        let e : p ≡ r = cc in
        ap (list_any (λ j. j == i)) (here (ap (λ (x : Point). x.proc_no) (sym e))) ∙ has_last (get_or places p.proc_no []) n i last

-- the next point
pub next_place : (points : List Point) (i : ℕ) (d : Point) (places new : List (List ℕ)) → i < length points → new ≡ with_point_place (get_or points i d).proc_no i places
    → AreByProcedure (take i points) places → AreByProcedure (take (i + 1) points) new
next_place points i d places new lt made h =
    let p = get_or points i d in
    let len : length (take i points) ≡ i = length-take-le i points (omega arith) in
    subst (λ (ps : List Point). AreByProcedure ps new) (sym (take_more points i d lt))
    (subst (AreByProcedure (take i points ++ p ∷ [])) (ap (λ (n : ℕ). with_point_place p.proc_no n places) len ∙ sym made) (place_more (take i points) p places h))

-- ---- one more place

pub placed_there : {V : Type 0} (items : V → List ℕ) (vs : List V) (q i : ℕ) (v w : V) → q < length vs → v ≡ get_or vs q v → items w ≡ items v ++ i ∷ [] → map items (set vs q w) ≡ with_point_place q i (map items vs)
placed_there items vs q i v w lt is e =
    map-set items vs q w
    ∙ ap (set (map items vs) q) (e ∙ ap (λ (l : List ℕ). l ++ i ∷ []) (ap items is ∙ sym (get_or-map items vs q v [] lt)))

pub placed_many : {V : Type 0} (items : V → List ℕ) (vs ws : List V) (q i : ℕ) → map items ws ≡ with_point_place q i (map items vs) → length ws ≡ length vs
placed_many items vs ws q i e =
    sym (length-map ws items) ∙ ap length e ∙ length-set (map items vs) q (get_or (map items vs) q [] ++ i ∷ []) ∙ length-map vs items

-- ---- the points at places

pub gathered_more : (points : List Point) (places : List ℕ) (k : ℕ) → k < length places
    → gathered points (take (k + 1) places) ≡ gathered points (take k places) ++ option_to_list (slice_get points (get_or places k 0))
gathered_more points places k lt =
    let here : List Point = option_to_list (slice_get points (get_or places k 0)) in
    ap (gathered points) (take_more places k 0 lt)
    ∙ flat_map-append (λ i. option_to_list (slice_get points i)) (take k places) (get_or places k 0 ∷ [])
    ∙ ap (λ (l : List Point). gathered points (take k places) ++ l) (append-nil here)

-- the point at a place
pub gathered_one : (points : List Point) (i : ℕ) (p : Point) → i < length points → p ≡ get_or points i p → option_to_list (slice_get points i) ≡ p ∷ []
gathered_one points i p lt is = ap option_to_list (slice_get-get_or points i p lt ∙ ap (λ (x : Point). Some x) (sym is))

pub gathered_none : (points : List Point) (i : ℕ) → length points ≤ i → option_to_list (slice_get points i) ≡ []
gathered_none points i ge = ap option_to_list (slice_get_past points i ge)
