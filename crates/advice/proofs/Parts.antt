-- The parts of a text.
use Rattle.std.proofs.Common.{◌≡◌, ℕ, ◌+◌, ◌==◌, cond, Bool, true, false, Some, None, List, [], ◌∷◌, ◌++◌, length, take, drop, position, nat_lt, refl, arith, ◌≤◌, not, subst}
use Rattle.std.specs.List.{list_all, position_or_len, slice_split}
use Rattle.std.proofs.lemmas.Bool.{and_parts, eq-eqb, ltb-true, ltb-false, not-true}
use Rattle.std.proofs.lemmas.List.Splits.{slice_split_first}
use Rattle.std.proofs.lemmas.List.Sums.{prefix_len-le-length}
use Rattle.advice.specs.Words.{parts}

some_only : (b : Bool) (m k : ℕ) → cond b (Some m) None ≡ Some k → (b ≡ true) × (m ≡ k)
some_only true m k e = (refl, cc)
some_only false m k e = cc

none_only : (b : Bool) (m : ℕ) → cond b (Some m) None ≡ None → b ≡ false
none_only true m e = cc
none_only false m e = refl

module _ (p : ℕ → Bool) where
  -- the first part ends at the place of the first separator
  pub split_at_place : (xs : List ℕ) (k : ℕ) → position p xs ≡ Some k → slice_split p xs ≡ take k xs ∷ slice_split p (drop (k + 1) xs)
  split_at_place xs k e =
      let f = some_only (nat_lt (position_or_len p xs) (length xs)) (position_or_len p xs) k e in
      subst (λ (j : ℕ). slice_split p xs ≡ take j xs ∷ slice_split p (drop (j + 1) xs)) f.1 (slice_split_first p xs 0 (ltb-true _ _ f.0))

  whole_step : (x : ℕ) (xs : List ℕ) (b : Bool) → p x ≡ b → position_or_len p (x ∷ xs) ≡ length (x ∷ xs) → (position_or_len p xs ≡ length xs → slice_split p xs ≡ xs ∷ []) → slice_split p (x ∷ xs) ≡ (x ∷ xs) ∷ []
  whole_step x xs true e h more = let here : position_or_len p (x ∷ xs) ≡ 0 = rw e refl in absurd (omega arith)
  whole_step x xs false e h more =
      let here : position_or_len p (x ∷ xs) ≡ 1 + position_or_len p xs = rw e refl in
      rw (e, more (omega (arith, here, h))) refl

  whole : (xs : List ℕ) → position_or_len p xs ≡ length xs → slice_split p xs ≡ xs ∷ []
  whole [] h = refl
  whole (x ∷ xs) h = whole_step x xs (p x) refl h (whole xs)

  -- and without one the text is the only part
  pub split_whole : (xs : List ℕ) → position p xs ≡ None → slice_split p xs ≡ xs ∷ []
  split_whole xs e =
      let f = none_only (nat_lt (position_or_len p xs) (length xs)) (position_or_len p xs) e in
      let least : position_or_len p xs ≤ length xs = prefix_len-le-length (λ x. not (p x)) xs in
      whole xs (omega (arith, least, ltb-false (position_or_len p xs) (length xs) f))

-- ---- bytes without a separator

-- the byte doesn't stand in the text
abbrev pub lacks : ℕ → List ℕ → Bool
lacks c text = list_all (λ byte. not (byte == c)) text

-- they are a part, up to a separator
pub part_at : (c : ℕ) (w text : List ℕ) → lacks c w ≡ true → parts c (w ++ c ∷ text) ≡ w ∷ parts c text
part_at c [] text h = rw (eq-eqb c c refl) refl
part_at c (byte ∷ w) text h =
    let each = and_parts (not (byte == c)) (lacks c w) h in
    rw (not-true (byte == c) each.0, part_at c w text each.1) refl

-- and the only one, up to the end
pub one_part : (c : ℕ) (w : List ℕ) → lacks c w ≡ true → parts c w ≡ w ∷ []
one_part c [] h = refl
one_part c (byte ∷ w) h =
    let each = and_parts (not (byte == c)) (lacks c w) h in
    rw (not-true (byte == c) each.0, one_part c w each.1) refl
