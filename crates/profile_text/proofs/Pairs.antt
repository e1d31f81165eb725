-- Pairs of the elements of two lists.
use Rattle.std.proofs.Common.{◌≡◌, ◌⊎◌, List, [], ◌∷◌, ◌++◌, ◌≤◌, length, inl, inr, refl, sym, ap, ◌∙◌, arith}
use Rattle.std.specs.List.{zip}
use Rattle.std.proofs.lemmas.List.{append-nil}

-- where one of two lists has no element left, there is no pair left
none_left : {A B : Type 0} (xs : List A) (ys : List B) → (length xs ≡ 0) ⊎ (length ys ≡ 0) → zip xs ys ≡ []
none_left [] ys h = refl
none_left (x ∷ xs) [] h = refl
none_left (x ∷ xs) (y ∷ ys) (inl e) = absurd (omega (arith, e))
none_left (x ∷ xs) (y ∷ ys) (inr e) = absurd (omega (arith, e))

-- what was made of the pairs before is then all
pub all_made : {A B C : Type 0} (f : List (A × B) → List C) (made all : List C) (xs : List A) (ys : List B) → f [] ≡ [] → made ++ f (zip xs ys) ≡ all
    → (length xs ≡ 0) ⊎ (length ys ≡ 0) → made ≡ all
all_made f made all xs ys nil e h = sym (append-nil made) ∙ ap (λ cs. made ++ cs) (sym (ap f (none_left xs ys h) ∙ nil)) ∙ e

-- there are no more pairs than elements of the first list
pub length-zip-le : {A B : Type 0} (xs : List A) (ys : List B) → length (zip xs ys) ≤ length xs
length-zip-le [] ys = omega arith
length-zip-le (x ∷ xs) [] = omega arith
length-zip-le (x ∷ xs) (y ∷ ys) = omega (arith, length-zip-le xs ys)
