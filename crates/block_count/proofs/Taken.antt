-- One more element of a list.
use Rattle.std.proofs.Common.{◌≡◌, ℕ, ◌+◌, ◌<◌, List, [], ◌∷◌, ◌++◌, Some, zero, suc, refl, take, drop, get_or, length, map, ap, sym, ◌∙◌, arith}
use Rattle.std.specs.Prelude.{slice_get}
use Rattle.std.specs.Option.{option_map}
use Rattle.std.proofs.Math.Seq.{drop-cons, take-suc}
use Rattle.std.proofs.lemmas.Option.{get_or_from_slice_get, slice_get_within}

pub one_more : {A : Type 0} (xs old new : List A) (n : ℕ) (x : A) → old ≡ take n xs → slice_get xs n ≡ Some x → new ≡ old ++ x ∷ [] → new ≡ take (n + 1) xs
one_more {A} xs old new n x before at e =
    let one : n + 1 ≡ suc n = omega arith in
    let is : get_or xs n x ≡ x = get_or_from_slice_get xs n x x at in
    e ∙ ap (λ l. l ++ x ∷ []) before ∙ sym (ap (λ k. take k xs) one ∙ take-suc xs n x (slice_get_within xs n x at) ∙ ap (λ y. take n xs ++ y ∷ []) is)

-- what is left of a list, from one of its elements on
pub rest_is : {A B : Type 0} (f : A → B) (xs : List A) (n : ℕ) (x : A) → n < length xs → x ≡ get_or xs n x → map f (drop n xs) ≡ f x ∷ map f (drop (n + 1) xs)
rest_is f xs n x l is =
    let one : suc n ≡ n + 1 = omega arith in
    ap (map f) (drop-cons xs n x l) ∙ ap (λ y. f y ∷ map f (drop (suc n) xs)) (sym is) ∙ ap (λ k. f x ∷ map f (drop k xs)) one

-- an element of a list that a function made
pub got : {A B : Type 0} (f : A → B) (xs : List A) (n : ℕ) → slice_get (map f xs) n ≡ option_map f (slice_get xs n)
got f [] n = refl
got f (x ∷ xs) zero = refl
got f (x ∷ xs) (suc n) = got f xs n
