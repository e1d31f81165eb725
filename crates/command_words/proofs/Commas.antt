-- The parts of a text between commas, one after another.
use Rattle.std.proofs.Common.{◌≡◌, ℕ, ◌+◌, ◌≤◌, cond, Bool, true, false, List, [], ◌∷◌, length, take, drop, refl, arith, Some, None, position, subst, nat_lt, not}
use Rattle.std.specs.List.{position_or_len, slice_split}
use Rattle.std.proofs.lemmas.Bool.{ltb-true, ltb-false}
use Rattle.std.proofs.lemmas.List.Splits.{slice_split_first}
use Rattle.std.proofs.lemmas.List.Sums.{prefix_len-le-length}
use Rattle.command_words.specs.Addresses.{is_comma}

abbrev at_comma : List ℕ → ℕ
at_comma xs = position_or_len is_comma xs

some_only : (b : Bool) (m k : ℕ) → cond b (Some m) None ≡ Some k → (b ≡ true) × (m ≡ k)
some_only true m k e = (refl, cc)
some_only false m k e = cc

none_only : (b : Bool) (m : ℕ) → cond b (Some m) None ≡ None → b ≡ false
none_only true m e = cc
none_only false m e = refl

-- the first part ends at the first comma
pub parts_at : (xs : List ℕ) (k : ℕ) → position is_comma xs ≡ Some k → slice_split is_comma xs ≡ take k xs ∷ slice_split is_comma (drop (k + 1) xs)
parts_at xs k e =
    let f = some_only (nat_lt (at_comma xs) (length xs)) (at_comma xs) k e in
    subst (λ (j : ℕ). slice_split is_comma xs ≡ take j xs ∷ slice_split is_comma (drop (j + 1) xs)) f.1
    (slice_split_first is_comma xs 0 (ltb-true _ _ f.0))

whole_step : (x : ℕ) (xs : List ℕ) (b : Bool) → is_comma x ≡ b → at_comma (x ∷ xs) ≡ length (x ∷ xs)
    → (at_comma xs ≡ length xs → slice_split is_comma xs ≡ xs ∷ []) → slice_split is_comma (x ∷ xs) ≡ (x ∷ xs) ∷ []
whole_step x xs true e h more = let here : at_comma (x ∷ xs) ≡ 0 = rw e refl in absurd (omega arith)
whole_step x xs false e h more =
    let here : at_comma (x ∷ xs) ≡ 1 + at_comma xs = rw e refl in
    let rest : at_comma xs ≡ length xs = omega arith in
    rw (e, more rest) refl

whole : (xs : List ℕ) → at_comma xs ≡ length xs → slice_split is_comma xs ≡ xs ∷ []
whole [] h = refl
whole (x ∷ xs) h = whole_step x xs (is_comma x) refl h (whole xs)

-- without a comma all is one part
pub one_part : (xs : List ℕ) → position is_comma xs ≡ None → slice_split is_comma xs ≡ xs ∷ []
one_part xs e =
    let f = none_only (nat_lt (at_comma xs) (length xs)) (at_comma xs) e in
    let least : at_comma xs ≤ length xs = prefix_len-le-length (λ x. not (is_comma x)) xs in
    whole xs (omega (arith, ltb-false (at_comma xs) (length xs) f))
