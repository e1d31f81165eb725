-- All places of a name, where one more name comes last.
use Rattle.std.proofs.Common.{◌≡◌, ◌≢◌, ◌⊎◌, inl, inr, ℕ, zero, suc, ◌+◌, ◌<◌, ◌≤◌, ◌==◌, ◌&&◌, ◌||◌, cond, Bool, true, false, Option, Some, List, [], ◌∷◌, ◌++◌, length, slice_get, filter, refl, sym, ap, ◌∙◌, bytes_eq, arith}
use Rattle.std.specs.List.{list_any, range_with_len}
use Rattle.std.specs.Option.{option_map_or}
use Rattle.std.proofs.lemmas.List.Elements.{filter-append}
use Rattle.std.proofs.lemmas.List.FromFn.{length-range_with_len}
use Rattle.std.proofs.lemmas.List.{length_push, append-nil}
use Rattle.std.proofs.lemmas.List.Sums.{length-filter, count_by-le-length}
use Rattle.std.proofs.lemmas.Option.{slice_get_past}
use Rattle.std.proofs.Math.Bool.{and-true}
use Rattle.std.proofs.lemmas.Bool.{cases_lt}
use Rattle.std.proofs.lemmas.Map.Views.{any-filter_same}
use borrow.Author.Tests.{eqb-true, eqb-false}
use Rattle.first_places.specs.Groups.{stands_at, places_of}
use Rattle.first_places.specs.Numbers.{with_number}

-- an element before the last, and the last
before_last : {A : Type 0} (xs : List A) (y : A) (k : ℕ) → k < length xs → slice_get (xs ++ y ∷ []) k ≡ slice_get xs k
before_last [] y k h = absurd (omega (arith, h))
before_last (x ∷ xs) y zero h = refl
before_last (x ∷ xs) y (suc k) h = before_last xs y k (omega (arith, h))

at_last : {A : Type 0} (xs : List A) (y : A) → slice_get (xs ++ y ∷ []) (length xs) ≡ Some y
at_last [] y = refl
at_last (x ∷ xs) y = at_last xs y

-- tests that agree on numbers
same_range : (p q : ℕ → Bool) (a n : ℕ) → ((k : ℕ) → k < a + n → p k ≡ q k) → filter p (range_with_len a n) ≡ filter q (range_with_len a n)
same_range p q a zero h = refl
same_range p q a (suc n) h =
    ap (λ (b : Bool). cond b (a ∷ filter p (range_with_len (a + 1) n)) (filter p (range_with_len (a + 1) n))) (h a (omega arith))
    ∙ ap (λ (l : List ℕ). cond (q a) (a ∷ l) l) (same_range p q (a + 1) n (λ k lt. h k (omega (arith, lt))))

-- one more number
pub range_more : (a n : ℕ) → range_with_len a (n + 1) ≡ range_with_len a n ++ (a + n) ∷ []
range_more a zero = let e : a ≡ a + 0 = omega arith in ap (λ (k : ℕ). k ∷ []) e
range_more a (suc n) =
    let e : a + 1 + n ≡ a + suc n = omega arith in
    let k : suc n + 1 ≡ suc (n + 1) = omega arith in
    ap (range_with_len a) k ∙ ap (λ (l : List ℕ). a ∷ l) (range_more (a + 1) n ∙ ap (λ (k : ℕ). range_with_len (a + 1) n ++ k ∷ []) e)

-- one more name
pub places_more : (name : List ℕ) (names : List (List ℕ)) (other : List ℕ) → places_of name (names ++ other ∷ []) ≡ with_number (bytes_eq name other) (length names) (places_of name names)
places_more name names other =
    let n = length names in
    let test = stands_at name (names ++ other ∷ []) in
    let here : test n ≡ bytes_eq name other = ap (λ (o : Option (List ℕ)). option_map_or (bytes_eq name) o false) (at_last names other) in
    ap (λ (k : ℕ). filter test (range_with_len 0 k)) (length_push names other)
    ∙ ap (filter test) (range_more 0 n)
    ∙ filter-append test (range_with_len 0 n) ((0 + n) ∷ [])
    ∙ ap (λ (k : ℕ). filter test (range_with_len 0 n) ++ cond (test k) (k ∷ []) []) (omega arith)
    ∙ ap (λ (l : List ℕ). l ++ cond (test n) (n ∷ []) []) (same_range test (stands_at name names) 0 n (λ k lt. ap (λ (o : Option (List ℕ)). option_map_or (bytes_eq name) o false) (before_last names other k (omega (arith, lt)))))
    ∙ ap (λ (b : Bool). places_of name names ++ cond b (n ∷ []) []) here
    ∙ by (bytes_eq name other)
  where
    by : (b : Bool) → places_of name names ++ cond b (length names ∷ []) [] ≡ with_number b (length names) (places_of name names)
    by true = refl
    by false = append-nil (places_of name names)

-- there are no more of them than names
pub few_places : (name : List ℕ) (names : List (List ℕ)) → length (places_of name names) ≤ length names
few_places name names =
    let test = stands_at name names in
    let range = range_with_len 0 (length names) in
    omega (arith, length-filter test range, count_by-le-length test range, length-range_with_len 0 (length names))

-- each of them is a place of the names
pub below_count : (p : ℕ → Bool) (a n i k : ℕ) → slice_get (filter p (range_with_len a n)) i ≡ Some k → k < a + n
below_count p a zero i k h = let past = slice_get_past {X = ℕ} [] i (omega arith) in cc
below_count p a (suc n) i k h = by (p a) i h (λ j g. below_count p (a + 1) n j k g)
  where
    by : (b : Bool) (j : ℕ) → slice_get (cond b (a ∷ filter p (range_with_len (a + 1) n)) (filter p (range_with_len (a + 1) n))) j ≡ Some k
        → ((i : ℕ) → slice_get (filter p (range_with_len (a + 1) n)) i ≡ Some k → k < a + 1 + n) → k < a + suc n
    by true zero g more = let e : a ≡ k = cc in omega (arith, e)
    by true (suc j) g more = omega (arith, more j g)
    by false j g more = omega (arith, more j g)

in_range : (a n k : ℕ) → a ≤ k → k < a + n → list_any (λ r. r == k) (range_with_len a n) ≡ true
in_range a zero k h g = absurd (omega (arith, h, g))
in_range a (suc n) k h g = by (a == k) refl (λ le. in_range (a + 1) n k le (omega (arith, g)))
  where
    by : (b : Bool) → (a == k) ≡ b → (a + 1 ≤ k → list_any (λ r. r == k) (range_with_len (a + 1) n) ≡ true) → b || list_any (λ r. r == k) (range_with_len (a + 1) n) ≡ true
    by true e more = refl
    by false e more = let other : a ≢ k = eqb-false a k e in more (omega (arith, h, other))

-- the places of a name are those at which it stands
pub is_place : (name : List ℕ) (names : List (List ℕ)) (k : ℕ) → list_any (λ r. r == k) (places_of name names) ≡ stands_at name names k
is_place name names k =
    any-filter_same (λ r. r == k) (stands_at name names) (stands_at name names k) (λ r e. ap (stands_at name names) (eqb-true r k e)) (range_with_len 0 (length names))
    ∙ by (cases_lt k (length names))
  where
    by : (k < length names) ⊎ (length names ≤ k) → stands_at name names k && list_any (λ r. r == k) (range_with_len 0 (length names)) ≡ stands_at name names k
    by (inl lt) = ap (λ (b : Bool). stands_at name names k && b) (in_range 0 (length names) k (omega arith) (omega (arith, lt))) ∙ and-true (stands_at name names k)
    by (inr ge) =
        let none : stands_at name names k ≡ false = ap (λ (o : Option (List ℕ)). option_map_or (bytes_eq name) o false) (slice_get_past names k ge) in
        ap (λ (b : Bool). b && list_any (λ r. r == k) (range_with_len 0 (length names))) none ∙ sym none
