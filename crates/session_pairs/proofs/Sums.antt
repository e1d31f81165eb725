-- Sums over all pairs are those over the pairs at live places, where a test that is gone gives 0.
use Rattle.std.proofs.Common.{◌≡◌, ℕ, zero, suc, ◌+◌, ◌<◌, ◌≤◌, List, [], ◌∷◌, ◌++◌, drop, get_or, length, refl, sym, ap, ap₂, ◌∙◌, subst, inl, inr, arith, append_assoc}
use Rattle.std.specs.Prelude.{true, slice_get}
use Rattle.std.specs.List.{AllByRecursion}
use Rattle.std.specs.Option.{option_map_or}
use Rattle.std.proofs.lemmas.List.{drop_all, length_push}
use Rattle.std.proofs.lemmas.Option.{slice_get_read}
use Rattle.instrument.specs.Placements.{Placements}
use Rattle.session_pairs.specs.declared.pair.SampledPair.{SampledPair}
use Rattle.session_pairs.specs.SampledPairs.{AreLiveFrom, is_gone_test}
use Rattle.session_pairs.proofs.Places.{get_at, live_turn, live_within}

-- what holds of all holds of the one at a place
pub all_at : {X : Type 0} (P : X → Type 0) (xs : List X) (i : ℕ) (x : X) → AllByRecursion P xs → i < length xs → x ≡ get_or xs i x → P x
all_at P [] i x all l e = (let no : ⊥ = omega (arith, l) in absurd no)
all_at P (y ∷ xs) zero x all l e = subst P (sym e) all.0
all_at P (y ∷ xs) (suc i) x all l e = all_at P xs i x all.1 (omega (arith, l)) e

-- the place that was read in a turn is that of some pair
pub place_within : (p : Placements) (pairs : List SampledPair) (live : List ℕ) (turn at : ℕ) → AreLiveFrom 0 p pairs live → turn < length live → at ≡ get_or live turn at → at < length pairs
place_within p pairs live turn at a l e =
    let low = all_at (λ (n : ℕ). n < 0 + length pairs) live turn at (live_within 0 p pairs live a) l e in
    omega (arith, low)

-- the sum over the pairs at these places
abbrev pub sum_at : (SampledPair → ℕ) → List SampledPair → List ℕ → ℕ
sum_at f pairs [] = 0
sum_at f pairs (at ∷ live) = option_map_or f (slice_get pairs at) 0 + sum_at f pairs live

-- a turn adds one
pub sum_step : (f : SampledPair → ℕ) (pairs : List SampledPair) (live : List ℕ) (turn at : ℕ) (k : SampledPair) → turn < length live → at ≡ get_or live turn at → at < length pairs → k ≡ get_or pairs at k
    → sum_at f pairs (drop turn live) ≡ f k + sum_at f pairs (drop (turn + 1) live)
sum_step f pairs live turn at k l e within is =
    ap (sum_at f pairs) (live_turn live turn at at l e)
    ∙ ap (λ o. option_map_or f o 0 + sum_at f pairs (drop (turn + 1) live)) (slice_get_read pairs (length pairs) at k refl within is)

pub sum_end : (f : SampledPair → ℕ) (pairs : List SampledPair) (live : List ℕ) (turn : ℕ) → length live ≤ turn → sum_at f pairs (drop turn live) ≡ 0
sum_end f pairs live turn l = ap (sum_at f pairs) (drop_all turn live l)

-- F is the sum of f over all pairs
module _ (p : Placements) (f : SampledPair → ℕ) (none : (k : SampledPair) → is_gone_test p k ≡ true → f k ≡ 0)
    (F : List SampledPair → ℕ) (nil : F [] ≡ 0) (cons : (k : SampledPair) (ks : List SampledPair) → F (k ∷ ks) ≡ f k + F ks) where
  past : (k : SampledPair) (ks : List SampledPair) → is_gone_test p k ≡ true → F (k ∷ ks) ≡ F ks
  past k ks g = omega (arith, cons k ks, none k g)

  sum_from : (front left : List SampledPair) (live : List ℕ) → AreLiveFrom (length front) p left live → sum_at f (front ++ left) live ≡ F left
  sum_from front [] [] a = sym nil
  sum_from front [] (at ∷ live) a = absurd a
  sum_from front (k ∷ ks) [] a = sum_from (front ++ k ∷ []) ks [] (subst (λ n. AreLiveFrom n p ks []) (sym (length_push front k)) a.1) ∙ sym (past k ks a.0)
  sum_from front (k ∷ ks) (at ∷ live) (inl a) =
      let rest = sum_from (front ++ k ∷ []) ks live (subst (λ n. AreLiveFrom n p ks live) (sym (length_push front k)) a.1) in
      ap₂ (λ o n. option_map_or f o 0 + n) (ap (slice_get (front ++ k ∷ ks)) a.0 ∙ get_at front k ks) (ap (λ xs. sum_at f xs live) (sym (append_assoc front (k ∷ []) ks)) ∙ rest)
      ∙ sym (cons k ks)
  sum_from front (k ∷ ks) (at ∷ live) (inr a) =
      let rest = sum_from (front ++ k ∷ []) ks (at ∷ live) (subst (λ n. AreLiveFrom n p ks (at ∷ live)) (sym (length_push front k)) a.2) in
      ap (λ xs. sum_at f xs (at ∷ live)) (sym (append_assoc front (k ∷ []) ks)) ∙ (rest ∙ sym (past k ks a.1))

  pub force_live : (pairs : List SampledPair) (live : List ℕ) → AreLiveFrom 0 p pairs live → sum_at f pairs live ≡ F pairs
  force_live pairs live a = sum_from [] pairs live a
