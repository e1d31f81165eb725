-- The numbers of the hypotheses that pass a test, one hypothesis after another.
use Rattle.std.proofs.Common.{◌≡◌, ℕ, ◌+◌, ◌<◌, ◌≤◌, Bool, true, false, cond, List, [], ◌∷◌, ◌++◌, length, drop, get_or, refl, sym, ap, ◌∙◌, arith, append_assoc}
use Rattle.std.proofs.lemmas.Bool.{cond_both, cond-true}
use Rattle.std.proofs.lemmas.List.{drop_more}
use Rattle.mdl_ast.specs.declared.items.Hypothesis.{Hypothesis}
use Rattle.w3_search.specs.Refining.{hypothesis_numbers_from}

module _ (passes : Hypothesis → Bool) where
  -- the numbers from the next hypothesis on
  pub numbers_step : (hs : List Hypothesis) (i : ℕ) (h : Hypothesis) → i < length hs → h ≡ get_or hs i h
      → hypothesis_numbers_from passes i (drop i hs) ≡ cond (passes h) (i ∷ hypothesis_numbers_from passes (i + 1) (drop (i + 1) hs)) (hypothesis_numbers_from passes (i + 1) (drop (i + 1) hs))
  numbers_step hs i h lt is = ap (hypothesis_numbers_from passes i) (drop_more hs i h lt ∙ ap (λ (x : Hypothesis). x ∷ drop (i + 1) hs) (sym is))

  -- the next one is the first of them
  pub passes_here : (hs : List Hypothesis) (i : ℕ) (h : Hypothesis) → i < length hs → h ≡ get_or hs i h → passes h ≡ true
      → hypothesis_numbers_from passes i (drop i hs) ≡ i ∷ hypothesis_numbers_from passes (i + 1) (drop (i + 1) hs)
  passes_here hs i h lt is yes' = numbers_step hs i h lt is ∙ cond-true (passes h) (i ∷ hypothesis_numbers_from passes (i + 1) (drop (i + 1) hs)) (hypothesis_numbers_from passes (i + 1) (drop (i + 1) hs)) yes'

  -- there are no more of them than hypotheses
  pub few_numbers : (i : ℕ) (hs : List Hypothesis) → length (hypothesis_numbers_from passes i hs) ≤ length hs
  few_numbers i [] = omega arith
  few_numbers i (h ∷ hs) =
      cond_both (passes h) (i ∷ hypothesis_numbers_from passes (i + 1) hs) (hypothesis_numbers_from passes (i + 1) hs) (λ (l : List ℕ). length l ≤ length (h ∷ hs))
      (λ _. omega (arith, few_numbers (i + 1) hs)) (λ _. omega (arith, few_numbers (i + 1) hs))

-- a number that is put last, where it is wanted, stands before the rest
pub put_last : (wanted : Bool) (before rest : List ℕ) (i : ℕ) → cond wanted (before ++ i ∷ []) before ++ rest ≡ before ++ cond wanted (i ∷ rest) rest
put_last true before rest i = append_assoc before (i ∷ []) rest
put_last false before rest i = refl
