-- Which items stand above an item.
use Rattle.std.specs.Prelude.{ℕ, ◌≡◌, true, Option, Some, List}
use Rattle.mdl_check.specs.Rules.{parent_at, is_cyclic}

-- an item is an ancestor of another: its parent, or an ancestor of its parent
pub data IsAncestor (parents : List (Option ℕ)) (ancestor : ℕ) : ℕ → Type 0 where
  Parent : (place : ℕ) → parent_at parents place ≡ Some ancestor → IsAncestor parents ancestor place
  Higher : (place parent : ℕ) → parent_at parents place ≡ Some parent → IsAncestor parents ancestor parent
      → IsAncestor parents ancestor place

-- an item is cyclic exactly if it is its own ancestor, however far above
abbrev pub CyclicIsOwnAncestor : Type 0
CyclicIsOwnAncestor =
    (parents : List (Option ℕ)) (place : ℕ)
    → (is_cyclic parents place ≡ true → IsAncestor parents place place)
    × (IsAncestor parents place place → is_cyclic parents place ≡ true)
