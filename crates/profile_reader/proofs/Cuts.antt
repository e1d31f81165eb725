-- What texts have in common, and what of a list is taken.
use Rattle.std.proofs.Common.{◌≡◌, ◌≤◌, ◌++◌, ◌∙◌, ℕ, zero, suc, List, [], ◌∷◌, length, append-nil, drop, map, take, refl, sym, ap, arith}
use Rattle.profile_reader.specs.Reading.{common_len}

nothing_left : {A : Type 0} (ys : List A) (k : ℕ) → length ys ≤ k → drop k ys ≡ []
nothing_left [] zero h = refl
nothing_left [] (suc k) h = refl
nothing_left (y ∷ ys) zero h = absurd (omega arith)
nothing_left (y ∷ ys) (suc k) h = nothing_left ys k (omega arith)

none_common : (xs : List ℕ) → common_len xs [] ≡ 0
none_common [] = refl
none_common (x ∷ xs) = refl

-- behind the end of a text it has nothing in common with another
pub nothing_common : (xs ys : List ℕ) (k : ℕ) → length ys ≤ k → common_len xs (drop k ys) ≡ 0
nothing_common xs ys k h = ap (common_len xs) (nothing_left ys k h) ∙ none_common xs

-- the front of a list whose front these are
pub front_taken : {A : Type 0} (xs ys all : List A) (n : ℕ) → length xs ≡ n → xs ++ ys ≡ all → xs ≡ take n all
front_taken [] ys all zero h e = refl
front_taken [] ys all (suc n) h e = absurd (omega arith)
front_taken (x ∷ xs) ys all zero h e = absurd (omega arith)
front_taken (x ∷ xs) ys [] (suc n) h e = absurd (cc)
front_taken (x ∷ xs) ys (z ∷ zs) (suc n) h e =
    let first : x ≡ z = cc in
    let rest : xs ++ ys ≡ zs = cc in
    ap (λ (l : List _). x ∷ l) (front_taken xs ys zs n (omega arith) rest) ∙ ap (λ (y : _). y ∷ take n zs) first

all_taken : {A : Type 0} (xs : List A) (n : ℕ) → length xs ≤ n → xs ≡ take n xs
all_taken [] zero h = refl
all_taken [] (suc n) h = refl
all_taken (x ∷ xs) zero h = absurd (omega arith)
all_taken (x ∷ xs) (suc n) h = ap (λ (l : List _). x ∷ l) (all_taken xs n (omega arith))

-- all of a list behind whose last nothing is left
pub whole_taken : {A B C : Type 0} (f : B → C) (g : A → B) (xs : List C) (ls : List A) (all : List C) (k n : ℕ) → length ls ≤ k → length xs ≤ n → xs ++ map f (map g (drop k ls)) ≡ all → xs ≡ take n all
whole_taken {A} f g xs ls all k n e h is =
    let none : map f (map g (drop k ls)) ≡ [] = ap (λ (l : List A). map f (map g l)) (nothing_left ls k e) in
    let same : xs ≡ all = sym (append-nil xs) ∙ ap (λ (l : List _). xs ++ l) (sym none) ∙ is in
    all_taken xs n h ∙ ap (take n) same
