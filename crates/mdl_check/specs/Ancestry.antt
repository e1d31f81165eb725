-- For proofs alone: the children of items, and which items aren't their own ancestors.
use Rattle.std.specs.Prelude.{ℕ, ◌≡◌, ◌<◌, ◌==◌, ◌||◌, Bool, true, false, Option, Some, None, List, [], ◌∷◌, ◌++◌, length, set, slice_index_or}
use Rattle.std.specs.List.{list_any}
use Rattle.mdl_check.specs.Rules.{parent_at, is_cyclic}

abbrev pub has : List ℕ → ℕ → Bool
has places place = list_any (λ p. p == place) places

abbrev pub is_clear : List Bool → ℕ → Bool
is_clear clear place = slice_index_or clear place false

-- a child put last among those of its parent
abbrev pub noted : Option ℕ → ℕ → List (List ℕ) → List (List ℕ)
noted None child children = children
noted (Some p) child children = set children p (slice_index_or children p [] ++ child ∷ [])

-- each of the first n items stands among the children of its parent
abbrev pub HaveChildren : ℕ → List (Option ℕ) → List (List ℕ) → Type 0
HaveChildren n parents children =
    (child p : ℕ) → child < n → p < length children → parent_at parents child ≡ Some p
    → has (slice_index_or children p []) child ≡ true

-- no more than what is clear was dropped
abbrev pub KeepsOthers : List Bool → List ℕ → List ℕ → Type 0
KeepsOthers clear old new = (child : ℕ) → has old child ≡ true → (has new child || is_clear clear child) ≡ true

-- what is clear isn't its own ancestor
abbrev pub AreClear : List (Option ℕ) → List Bool → Type 0
AreClear parents clear = (place : ℕ) → is_clear clear place ≡ true → is_cyclic parents place ≡ false

-- each item stands among the children of its parent, or is clear
pub record IsAncestry (parents : List (Option ℕ)) (children : List (List ℕ)) (clear : List Bool) : Type 0 where
  pub many : length children ≡ length parents
  pub many_clear : length clear ≡ length parents
  pub children_stand : (child p : ℕ) → p < length children → parent_at parents child ≡ Some p
      → (has (slice_index_or children p []) child || is_clear clear child) ≡ true
  pub clear_are : AreClear parents clear
