-- The first of each name, where one more thing comes last.
use Rattle.std.proofs.Common.{◌≡◌, ℕ, ◌≤◌, not, ◌||◌, cond, Bool, true, false, List, [], ◌∷◌, ◌++◌, length, map, filter, refl, sym, ap, ◌∙◌, bytes_eq, arith, if◌then◌else◌}
use Rattle.std.specs.Cmp.Lexicographic.{bytes_decides}
use Rattle.std.specs.List.{list_any}
use Rattle.std.proofs.lemmas.List.{append-nil}
use Rattle.std.proofs.lemmas.List.Elements.{filter-append}
use Rattle.std.proofs.lemmas.List.Sums.{length-filter, count_by-le-length}
use Rattle.first_places.specs.Groups.{firsts}

-- equality of names goes both ways
pub swapped : (a b : List ℕ) → bytes_eq a b ≡ bytes_eq b a
swapped a b = by (bytes_eq a b) (bytes_eq b a) refl refl
  where
    by : (x y : Bool) → bytes_eq a b ≡ x → bytes_eq b a ≡ y → x ≡ y
    by true true e f = refl
    by false false e f = refl
    by true false e f =
        let same : a ≡ b = (bytes_decides a b).0 e in
        let g : bytes_eq b a ≡ bytes_eq a b = ap (bytes_eq b) same ∙ ap (λ (t : List ℕ). bytes_eq t b) (sym same) in
        cc
    by false true e f =
        let same : b ≡ a = (bytes_decides b a).0 f in
        let g : bytes_eq a b ≡ bytes_eq b a = ap (bytes_eq a) same ∙ ap (λ (t : List ℕ). bytes_eq t a) (sym same) in
        cc

module _ {X : Type 0} (name_of : X → List ℕ) where
  abbrev pub has_name : List ℕ → List X → Bool
  has_name name xs = list_any (λ x. bytes_eq name (name_of x)) xs

  -- things whose names differ from one
  abbrev others : List ℕ → List X → List X
  others name xs = filter (λ y. not (bytes_eq name (name_of y))) xs

  -- another name is among them where it was before
  any_other : (own name : List ℕ) (xs : List X) → bytes_eq name own ≡ false → has_name name (others own xs) ≡ has_name name xs
  any_other own name [] h = refl
  any_other own name (x ∷ xs) h = by (bytes_eq own (name_of x)) refl (bytes_eq name (name_of x)) refl (any_other own name xs h)
    where
      by : (a : Bool) → bytes_eq own (name_of x) ≡ a → (b : Bool) → bytes_eq name (name_of x) ≡ b → has_name name (others own xs) ≡ has_name name xs
          → has_name name (cond (not a) (x ∷ others own xs) (others own xs)) ≡ b || has_name name xs
      by false e b f more = ap (λ (c : Bool). c || has_name name (others own xs)) f ∙ ap (λ (c : Bool). b || c) more
      by true e false f more = more
      by true e true f more =
          let x1 : own ≡ name_of x = (bytes_decides own (name_of x)).0 e in
          let x2 : name ≡ name_of x = (bytes_decides name (name_of x)).0 f in
          let same : bytes_eq name own ≡ true = (bytes_decides name own).1 (x2 ∙ sym x1) in
          cc

  -- each name that is there has a first
  pub any_first : (name : List ℕ) (xs : List X) → has_name name (firsts name_of xs) ≡ has_name name xs
  any_first name [] = refl
  any_first name (x ∷ xs) = by (bytes_eq name (name_of x)) refl (any_first name xs)
    where
      by : (b : Bool) → bytes_eq name (name_of x) ≡ b → has_name name (firsts name_of xs) ≡ has_name name xs → b || has_name name (others (name_of x) (firsts name_of xs)) ≡ b || has_name name xs
      by true h more = refl
      by false h more = any_other (name_of x) name (firsts name_of xs) h ∙ more

  -- one more thing is the first of its name where that is new
  pub firsts_more : (xs : List X) (y : X) → firsts name_of (xs ++ y ∷ []) ≡ (if has_name (name_of y) xs then firsts name_of xs else firsts name_of xs ++ y ∷ [])
  firsts_more [] y = refl
  firsts_more (x ∷ xs) y = ap (λ (l : List X). x ∷ others (name_of x) l) (firsts_more xs y) ∙ by (bytes_eq (name_of y) (name_of x)) (has_name (name_of y) xs) refl
    where
      last : (b : Bool) → bytes_eq (name_of x) (name_of y) ≡ b → others (name_of x) (firsts name_of xs ++ y ∷ []) ≡ others (name_of x) (firsts name_of xs) ++ cond (not b) (y ∷ []) []
      last b e = filter-append (λ z. not (bytes_eq (name_of x) (name_of z))) (firsts name_of xs) (y ∷ []) ∙ ap (λ (c : Bool). others (name_of x) (firsts name_of xs) ++ cond (not c) (y ∷ []) []) e

      by : (a b : Bool) → bytes_eq (name_of y) (name_of x) ≡ a
          → x ∷ others (name_of x) (if b then firsts name_of xs else firsts name_of xs ++ y ∷ [])
          ≡ (if a || b then x ∷ others (name_of x) (firsts name_of xs) else x ∷ (others (name_of x) (firsts name_of xs) ++ y ∷ []))
      by true true h = refl
      by false true h = refl
      by true false h = ap (λ (l : List X). x ∷ l) (last true (swapped (name_of x) (name_of y) ∙ h) ∙ append-nil (others (name_of x) (firsts name_of xs)))
      by false false h = ap (λ (l : List X). x ∷ l) (last false (swapped (name_of x) (name_of y) ∙ h))

  -- there are no more of them than things
  pub few_firsts : (xs : List X) → length (firsts name_of xs) ≤ length xs
  few_firsts [] = omega arith
  few_firsts (x ∷ xs) =
      let p : X → Bool = λ y. not (bytes_eq (name_of x) (name_of y)) in
      omega (arith, few_firsts xs, length-filter p (firsts name_of xs), count_by-le-length p (firsts name_of xs))

  mapped : (own : List ℕ) (xs : List X) → map name_of (others own xs) ≡ filter (λ name. not (bytes_eq own name)) (map name_of xs)
  mapped own [] = refl
  mapped own (x ∷ xs) = by (bytes_eq own (name_of x)) (mapped own xs)
    where
      by : (b : Bool) → map name_of (others own xs) ≡ filter (λ name. not (bytes_eq own name)) (map name_of xs)
          → map name_of (cond (not b) (x ∷ others own xs) (others own xs))
          ≡ cond (not b) (name_of x ∷ filter (λ name. not (bytes_eq own name)) (map name_of xs)) (filter (λ name. not (bytes_eq own name)) (map name_of xs))
      by true h = h
      by false h = ap (λ (l : List (List ℕ)). name_of x ∷ l) h

  -- the first names
  pub first_names : (xs : List X) → map name_of (firsts name_of xs) ≡ firsts (λ name. name) (map name_of xs)
  first_names [] = refl
  first_names (x ∷ xs) =
      ap (λ (l : List (List ℕ)). name_of x ∷ l) (mapped (name_of x) (firsts name_of xs) ∙ ap (filter (λ name. not (bytes_eq (name_of x) name))) (first_names xs))
