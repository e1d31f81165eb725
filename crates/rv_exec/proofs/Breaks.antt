-- The reservations that a store breaks, one after another.
use Rattle.std.proofs.Common.{◌≡◌, ℕ, zero, suc, ◌+◌, ◌<◌, ◌≤◌, List, [], ◌∷◌, length, get_or, set, Option, refl, ap, ◌∙◌, arith}
use Rattle.rv_word.specs.Exec.{broken, left_of}

-- the first i are as they are
abbrev pub broken_from : ℕ → ℕ → ℕ → ℕ → ℕ → List (Option ℕ) → List (Option ℕ)
broken_from zero k h first last xs = broken k h first last xs
broken_from (suc i) k h first last [] = []
broken_from (suc i) k h first last (x ∷ xs) = x ∷ broken_from i (k + 1) h first last xs

pub at_end : (i k h first last : ℕ) (xs : List (Option ℕ)) → length xs ≤ i → broken_from i k h first last xs ≡ xs
at_end zero k h first last [] e = refl
at_end zero k h first last (x ∷ xs) e = absurd (omega arith)
at_end (suc i) k h first last [] e = refl
at_end (suc i) k h first last (x ∷ xs) e = ap (λ z. x ∷ z) (at_end i (k + 1) h first last xs (omega arith))

pub step : (i k h first last : ℕ) (xs : List (Option ℕ)) (d : Option ℕ) → i < length xs → broken_from (suc i) k h first last (set xs i (left_of (k + i) h first last (get_or xs i d))) ≡ broken_from i k h first last xs
step i k h first last [] d l = absurd (omega arith)
step zero k h first last (x ∷ xs) d l =
    let e : k + 0 ≡ k = omega arith in
    ap (λ j. left_of j h first last x ∷ broken (k + 1) h first last xs) e
step (suc i) k h first last (x ∷ xs) d l =
    let e : k + suc i ≡ k + 1 + i = omega arith in
    ap (λ z. x ∷ z) (ap (λ j. broken_from (suc i) (k + 1) h first last (set xs i (left_of j h first last (get_or xs i d)))) e ∙ step i (k + 1) h first last xs d (omega arith))

pub stepped : (i h first last : ℕ) (v x : Option ℕ) (xs : List (Option ℕ)) → i < length xs → v ≡ left_of i h first last x → x ≡ get_or xs i x → broken_from (i + 1) 0 h first last (set xs i v) ≡ broken_from i 0 h first last xs
stepped i h first last v x xs l e g =
    let s : i + 1 ≡ suc i = omega arith in
    let z : i ≡ 0 + i = omega arith in
    ap (λ j. broken_from j 0 h first last (set xs i v)) s ∙ ap (λ w. broken_from (suc i) 0 h first last (set xs i w)) (e ∙ ap (left_of i h first last) g ∙ ap (λ j. left_of j h first last (get_or xs i x)) z) ∙ step i 0 h first last xs x l
