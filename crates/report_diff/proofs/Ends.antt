-- Where one of two lists ends.
use Rattle.std.proofs.Common.{◌≡◌, ◌≤◌, ◌<◌, ◌⊎◌, ℕ, zero, suc, Bool, true, false, List, [], ◌∷◌, length, drop, min, refl, ap, inl, inr, ⊎_elim, ◌∙◌, arith}
use Rattle.std.specs.Prelude.{nat_lt}
use Rattle.std.proofs.lemmas.Bool.Decides.{nat_tests}
use Rattle.report_diff.specs.Runs.{same_bytes}

drop_past : {X : Type 0} (xs : List X) (n : ℕ) → length xs ≤ n → drop n xs ≡ []
drop_past [] zero l = refl
drop_past [] (suc n) l = refl
drop_past (x ∷ xs) zero l = absurd (omega arith)
drop_past (x ∷ xs) (suc n) l = drop_past xs n (omega arith)

none_left : (olds : List ℕ) → same_bytes olds [] ≡ 0
none_left [] = refl
none_left (old ∷ olds) = refl

ended : (a b n : ℕ) → n ≡ min a b → (a ≤ n) ⊎ (b ≤ n)
ended a b n e = elim (nat_lt a b) as (λ t. nat_lt a b ≡ t → (a ≤ n) ⊎ (b ≤ n)) [ true ↦ (λ f. inl (grind (arith, nat_tests))) | false ↦ (λ f. inr (grind (arith, nat_tests))) ] refl

-- no byte is left to be the same
pub none_same : (olds news : List ℕ) (n : ℕ) → n ≡ min (length olds) (length news) → same_bytes (drop n olds) (drop n news) ≡ 0
none_same olds news n e =
    ⊎_elim
    (λ (l : length olds ≤ n). ap (λ (z : List ℕ). same_bytes z (drop n news)) (drop_past olds n l))
    (λ (l : length news ≤ n). let none : drop n news ≡ [] = drop_past news n l in ap (λ (z : List ℕ). same_bytes (drop n olds) z) none ∙ none_left (drop n olds))
    (ended (length olds) (length news) n e)
