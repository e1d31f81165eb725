-- For proofs alone: what is kept beside hypotheses, so that each is found at once.
use Rattle.std.specs.Prelude.{ℕ, ◌≡◌, ◌<◌, ◌^◌, List, length, map}
use Rattle.mdl_ast.specs.declared.items.Hypothesis.{Hypothesis}
use Rattle.first_places.specs.Numbers.{numbers_under}
use Rattle.w3_search.specs.declared.axis_set.AxisSet.{AxisSet}
use Rattle.w3_search.specs.Refining.{axes_named, refinements, roots}

-- under each name stand the numbers of the hypotheses whose parent has it
abbrev pub AreUnder : {K V : Type 0} → (K → List ℕ) → (V → List ℕ) → List Hypothesis → List (K × V) → Type 0
AreUnder now items hs under = (name : List ℕ) → numbers_under now items name under ≡ refinements hs name

pub record IsLinked {K V : Type 0} (now : K → List ℕ) (items : V → List ℕ) (hs : List Hypothesis) (tops : List ℕ)
    (under : List (K × V)) (axes : List AxisSet) : Type 0 where
  pub few : length hs < 2 ^ 32
  pub at_the_top : tops ≡ roots hs
  pub below : AreUnder now items hs under
  pub refined_along : axes ≡ map (λ h. axes_named h.axes) hs
