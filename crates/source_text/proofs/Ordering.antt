-- A stable sort by a number has one result.
use Rattle.std.proofs.Common.{◌≡◌, ℕ, suc, ◌+◌, ◌<◌, ◌≤◌, List, [], ◌∷◌, length, get_or, map, Bool, true, false, not, ◌&&◌, cond, eqb, leb, refl, ap, sym, subst, ◌∙◌, ⊎_elim, arith}
use Rattle.std.specs.List.{filter}
use Rattle.std.specs.List.Sorted.{IsNonDecreasingBy, IsStableByKey, ties}
use Rattle.std.specs.Ordering.{is_lt, nat_cmp}
use Rattle.std.proofs.lemmas.Bool.{cases_lt}
use Rattle.std.proofs.lemmas.Bool.Decides.{nat_tests}
use Rattle.source_text.specs.Ordered.{insert_by, ordered_by}

module _ {X : Type 0} (n : X → ℕ) where
  -- the numbers of the elements don't fall, and the first is at least k
  abbrev pub Rises : ℕ → List X → Type 0
  Rises k [] = Unit {0}
  Rises k (x ∷ xs) = (k ≤ n x) × Rises (n x) xs

  -- the elements of number j
  abbrev pub at : ℕ → List X → List X
  at j xs = filter (λ x. eqb j (n x)) xs

  -- ---- two lists that rise, with the same elements of each number, are one

  none_below : (j k : ℕ) (xs : List X) → Rises k xs → j < k → at j xs ≡ []
  none_below j k [] h l = refl
  none_below j k (x ∷ xs) h l =
      let e : eqb j (n x) ≡ false = grind (arith, nat_tests) in
      ap (λ b. cond b (x ∷ at j xs) (at j xs)) e ∙ none_below j (n x) xs h.1 (omega (arith, h.0))

  at_head : (j : ℕ) (x : X) (xs : List X) → j ≡ n x → at j (x ∷ xs) ≡ x ∷ at j xs
  at_head j x xs e =
      let t : eqb j (n x) ≡ true = grind (arith, nat_tests) in
      ap (λ b. cond b (x ∷ at j xs) (at j xs)) t

  not_nil : (x : X) (xs ys : List X) → ys ≡ x ∷ xs → ys ≡ [] → ⊥
  not_nil x xs ys e h = cc

  joined : (x y : X) (xs ys us vs : List X) → x ∷ us ≡ y ∷ vs → xs ≡ ys → x ∷ xs ≡ y ∷ ys
  joined x y xs ys us vs h e = cc

  same : (b : Bool) (x y : X) (xs ys : List X) → cond b (x ∷ xs) xs ≡ cond b (y ∷ ys) ys → xs ≡ ys
  same true x y xs ys h = cc
  same false x y xs ys h = h

  -- the tails agree where the lists with their heads do, which have the same number
  tails : (j : ℕ) (x y : X) (xs ys : List X) → n x ≡ n y → at j (x ∷ xs) ≡ at j (y ∷ ys) → at j xs ≡ at j ys
  tails j x y xs ys e h = same (eqb j (n x)) x y (at j xs) (at j ys) (h ∙ ap (λ k. cond (eqb j k) (y ∷ at j ys) (at j ys)) (sym e))

  pub unique : (k : ℕ) (xs ys : List X) → Rises k xs → Rises k ys → ((z : X) → at (n z) xs ≡ at (n z) ys) → xs ≡ ys
  unique k [] [] a b h = refl
  unique k [] (y ∷ ys) a b h = absurd (not_nil y _ _ (at_head (n y) y ys refl) (sym (h y)))
  unique k (x ∷ xs) [] a b h = absurd (not_nil x _ _ (at_head (n x) x xs refl) (h x))
  unique k (x ∷ xs) (y ∷ ys) a b h =
      ⊎_elim
      (λ (l : n x < n y). absurd (not_nil x _ _ (at_head (n x) x xs refl) (h x ∙ none_below (n x) (n y) (y ∷ ys) (omega arith, b.1) l)))
      (λ (l : n y ≤ n x). ⊎_elim
      (λ (m : n y < n x). absurd (not_nil y _ _ (at_head (n y) y ys refl) (sym (h y) ∙ none_below (n y) (n x) (x ∷ xs) (omega arith, a.1) m)))
      (λ (m : n x ≤ n y).
      let e : n x ≡ n y = omega arith in
      let heads = sym (at_head (n x) x xs refl) ∙ h x ∙ at_head (n x) y ys e in
      let same_tail : xs ≡ ys = unique (n x) xs ys a.1 (subst (λ i. Rises i ys) (sym e) b.1) (λ z. tails (n z) x y xs ys e (h z)) in
      joined x y xs ys _ _ heads same_tail)
      (cases_lt (n y) (n x)))
      (cases_lt (n x) (n y))

  -- ---- ordered_by

  insert-rises : (x : X) (k : ℕ) (ys : List X) → k ≤ n x → Rises k ys → Rises k (insert_by n x ys)
  insert-rises x k [] l h = (l, tt)
  insert-rises x k (y ∷ ys) l h =
      ⊎_elim
      (λ (m : n y < n x).
      let e : leb (n x) (n y) ≡ false = grind (arith, nat_tests) in
      subst (λ b. Rises k (cond b (x ∷ (y ∷ ys)) (y ∷ insert_by n x ys))) (sym e) (h.0, insert-rises x (n y) ys (omega arith) h.1))
      (λ (m : n x ≤ n y).
      let e : leb (n x) (n y) ≡ true = grind (arith, nat_tests) in
      subst (λ b. Rises k (cond b (x ∷ (y ∷ ys)) (y ∷ insert_by n x ys))) (sym e) (l, (m, h.1)))
      (cases_lt (n y) (n x))

  pub ordered-rises : (xs : List X) → Rises 0 (ordered_by n xs)
  ordered-rises [] = tt
  ordered-rises (x ∷ xs) = insert-rises x 0 (ordered_by n xs) (omega arith) (ordered-rises xs)

  -- of two elements at most one passes
  exchange : (a b : Bool) (x y : X) (xs : List X) → (a ≡ true → b ≡ true → ⊥) → cond a (x ∷ cond b (y ∷ xs) xs) (cond b (y ∷ xs) xs) ≡ cond b (y ∷ cond a (x ∷ xs) xs) (cond a (x ∷ xs) xs)
  exchange true true x y xs h = absurd (h refl refl)
  exchange true false x y xs h = refl
  exchange false true x y xs h = refl
  exchange false false x y xs h = refl

  apart : (j a b : ℕ) → a < b → eqb j a ≡ true → eqb j b ≡ true → ⊥
  apart j a b l e h = grind (arith, nat_tests)

  insert-at : (x : X) (j : ℕ) (ys : List X) → at j (insert_by n x ys) ≡ at j (x ∷ ys)
  insert-at x j [] = refl
  insert-at x j (y ∷ ys) =
      ⊎_elim
      (λ (m : n y < n x).
      let e : leb (n x) (n y) ≡ false = grind (arith, nat_tests) in
      ap (λ b. at j (cond b (x ∷ (y ∷ ys)) (y ∷ insert_by n x ys))) e
      ∙ ap (λ z. cond (eqb j (n y)) (y ∷ z) z) (insert-at x j ys)
      ∙ exchange (eqb j (n y)) (eqb j (n x)) y x (at j ys) (apart j (n y) (n x) m))
      (λ (m : n x ≤ n y).
      let e : leb (n x) (n y) ≡ true = grind (arith, nat_tests) in
      ap (λ b. at j (cond b (x ∷ (y ∷ ys)) (y ∷ insert_by n x ys))) e)
      (cases_lt (n y) (n x))

  pub ordered-at : (j : ℕ) (xs : List X) → at j (ordered_by n xs) ≡ at j xs
  ordered-at j [] = refl
  ordered-at j (x ∷ xs) = insert-at x j (ordered_by n xs) ∙ ap (λ z. cond (eqb j (n x)) (x ∷ z) z) (ordered-at j xs)

  -- ---- a stable sort

  rises : (k : ℕ) (xs : List X) → IsNonDecreasingBy n xs → ((d : X) → 0 < length xs → k ≤ n (get_or xs 0 d)) → Rises k xs
  rises k [] h l = tt
  rises k (x ∷ xs) h l =
      (l x (omega arith), rises (n x) xs (λ i j d a b. h (suc i) (suc j) d (omega arith) (omega arith)) (λ d b. h 0 1 d (omega arith) (omega arith)))

  tie : (a b : ℕ) → (not (is_lt (nat_cmp a b)) && not (is_lt (nat_cmp b a))) ≡ eqb a b
  tie a b = grind (arith, nat_tests)

  stable_at : (x : X) (xs : List X) → filter (ties (λ y z. is_lt (nat_cmp (n y) (n z))) x) xs ≡ at (n x) xs
  stable_at x xs = λ i. filter (λ y. tie (n x) (n y) i) xs

  -- elements that a stable sort put in order
  pub sorted_is : (xs ys : List X) → IsNonDecreasingBy n ys → IsStableByKey n nat_cmp xs ys → ys ≡ ordered_by n xs
  sorted_is xs ys up stable =
      unique 0 ys (ordered_by n xs) (rises 0 ys up (λ d b. omega arith)) (ordered-rises xs)
      (λ z. sym (stable_at z ys) ∙ stable z ∙ stable_at z xs ∙ sym (ordered-at (n z) xs))

-- ---- what elements are mapped to

map-cond : {X Y : Type 0} (f : X → Y) (b : Bool) (x y : X) (xs ys : List X) → map f (cond b (x ∷ xs) (y ∷ ys)) ≡ cond b (f x ∷ map f xs) (f y ∷ map f ys)
map-cond f true x y xs ys = refl
map-cond f false x y xs ys = refl

insert-map : {X Y : Type 0} (n : Y → ℕ) (f : X → Y) (x : X) (ys : List X) → map f (insert_by (λ z. n (f z)) x ys) ≡ insert_by n (f x) (map f ys)
insert-map n f x [] = refl
insert-map n f x (y ∷ ys) =
    map-cond f (leb (n (f x)) (n (f y))) x y (y ∷ ys) (insert_by (λ z. n (f z)) x ys)
    ∙ ap (λ z. cond (leb (n (f x)) (n (f y))) (f x ∷ (f y ∷ map f ys)) (f y ∷ z)) (insert-map n f x ys)

pub ordered-map : {X Y : Type 0} (n : Y → ℕ) (f : X → Y) (xs : List X) → map f (ordered_by (λ z. n (f z)) xs) ≡ ordered_by n (map f xs)
ordered-map n f [] = refl
ordered-map n f (x ∷ xs) = insert-map n f x (ordered_by (λ z. n (f z)) xs) ∙ ap (insert_by n (f x)) (ordered-map n f xs)
