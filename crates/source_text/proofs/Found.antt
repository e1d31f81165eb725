-- What is found in a list.
use Rattle.std.proofs.Common.{◌≡◌, ℕ, zero, suc, ◌+◌, ◌<◌, ◌≤◌, List, [], ◌∷◌, length, get_or, map, Bool, true, false, cond, eqb, Option, Some, None, refl, ap, sym, ◌∙◌, arith}
use Rattle.std.specs.List.{filter, find, last_or}
use Rattle.source_text.specs.Ordered.{ordered_by}
use Rattle.source_text.proofs.Ordering.{ordered-at}

-- ---- the last that passes a test

module _ {X : Type 0} (p : X → Bool) where
  pub none_pass : (o : Option X) (xs : List X) → ((k : ℕ) (d : X) → k < length xs → p (get_or xs k d) ≡ false) → last_or o (filter p xs) ≡ o
  none_pass o [] h = refl
  none_pass o (x ∷ xs) h =
      ap (λ b. last_or o (cond b (x ∷ filter p xs) (filter p xs))) (h 0 x (omega arith))
      ∙ none_pass o xs (λ k d l. h (suc k) d (omega arith))

  pub last_pass : (o : Option X) (i : ℕ) (xs : List X) (e : X) → i < length xs → ((k : ℕ) (d : X) → k ≤ i → p (get_or xs k d) ≡ true)
      → ((k : ℕ) (d : X) → i < k → k < length xs → p (get_or xs k d) ≡ false) → last_or o (filter p xs) ≡ Some (get_or xs i e)
  last_pass o i [] e l h g = absurd (omega arith)
  last_pass o zero (x ∷ xs) e l h g =
      ap (λ b. last_or o (cond b (x ∷ filter p xs) (filter p xs))) (h 0 x (omega arith))
      ∙ none_pass (Some x) xs (λ k d m. g (suc k) d (omega arith) (omega arith))
  last_pass o (suc i) (x ∷ xs) e l h g =
      ap (λ b. last_or o (cond b (x ∷ filter p xs) (filter p xs))) (h 0 x (omega arith))
      ∙ last_pass (Some x) i xs e (omega arith) (λ k d m. h (suc k) d (omega arith)) (λ k d m j. g (suc k) d (omega arith) (omega arith))

-- ---- the first that passes a test

module _ {X Y : Type 0} (f : X → Y) (p : Y → Bool) where
  pub none_found : (xs : List X) (e : X) → ((k : ℕ) → k < length xs → p (f (get_or xs k e)) ≡ false) → find p (map f xs) ≡ None
  none_found [] e h = refl
  none_found (x ∷ xs) e h =
      ap (λ b. cond b (Some (f x)) (find p (map f xs))) (h 0 (omega arith)) ∙ none_found xs e (λ k l. h (suc k) (omega arith))

  pub first_found : (i : ℕ) (xs : List X) (e : X) → i < length xs → ((k : ℕ) (d : X) → k < i → p (f (get_or xs k d)) ≡ false)
      → p (f (get_or xs i e)) ≡ true → find p (map f xs) ≡ Some (f (get_or xs i e))
  first_found i [] e l h g = absurd (omega arith)
  first_found zero (x ∷ xs) e l h g = ap (λ b. cond b (Some (f x)) (find p (map f xs))) g
  first_found (suc i) (x ∷ xs) e l h g =
      ap (λ b. cond b (Some (f x)) (find p (map f xs))) (h 0 x (omega arith)) ∙ first_found i xs e (omega arith) (λ k d m. h (suc k) d (omega arith)) g

-- ---- what is found among elements of one number

abbrev first_of : {X : Type 0} → List X → Option X
first_of [] = None
first_of (x ∷ xs) = Some x

first_cond : {X : Type 0} (b : Bool) (x : X) (xs : List X) → first_of (cond b (x ∷ xs) xs) ≡ cond b (Some x) (first_of xs)
first_cond true x xs = refl
first_cond false x xs = refl

first_is : {X : Type 0} (p : X → Bool) (xs : List X) → first_of (filter p xs) ≡ find p xs
first_is p [] = refl
first_is p (x ∷ xs) = first_cond (p x) x (filter p xs) ∙ ap (λ o. cond (p x) (Some x) o) (first_is p xs)

-- it is the same in a list that is ordered by that number
pub find-ordered : {X : Type 0} (n : X → ℕ) (j : ℕ) (xs : List X) → find (λ x. eqb j (n x)) (ordered_by n xs) ≡ find (λ x. eqb j (n x)) xs
find-ordered n j xs = sym (first_is (λ x. eqb j (n x)) (ordered_by n xs)) ∙ ap first_of (ordered-at n j xs) ∙ first_is (λ x. eqb j (n x)) xs
