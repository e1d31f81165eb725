-- What holds of pictures and trees.
use Rattle.std.specs.Prelude.{ℕ, ◌≡◌, ◌<◌, ◌≤◌, ◌+◌, ◌*◌, ◌==◌, if◌then◌else◌, false, Some, List, slice_get}
use Rattle.std.specs.List.{count_by}
use Rattle.std.specs.Option.{option_map_or}
use Rattle.report.specs.declared.parts.NodePart.{NodePart}
use Rattle.report_view.specs.Bars.{height}
use Rattle.report_view.specs.Trees.{was_true, truth_tree}
use Rattle.report_view.specs.declared.tree_row.TreeRow.{TreeRow}

-- A bar's height is the greatest number of eighths of the greatest value that isn't above its own value, and at most eight.
pub record IsHeight (most value n : ℕ) : Type 0 where
  pub least : n * most ≤ value * 8
  pub greatest : value * 8 < (n + 1) * most
  pub whole : value ≤ most → n ≤ 8

abbrev pub HeightsAreShares : Type 0
HeightsAreShares = (most value : ℕ) → 0 < most → IsHeight most value (height most value)

-- In the tree stands each node that was true exactly once, and no other.
abbrev pub TreeHasEach : Type 0
TreeHasEach = (parts : List NodePart) (n : ℕ)
    → count_by (λ row. row.number == n) (truth_tree parts) ≡ (if option_map_or was_true (slice_get parts n) false then 1 else 0)

-- A row that isn't a root stands below the node that it refines: that one stands before it, one step less deep, and all between them are
-- deeper than that one.
pub record StandsBelow (parts : List NodePart) (rows : List TreeRow) (i : ℕ) (row : TreeRow) : Type 0 where
  pub place : ℕ
  pub before : place < i
  pub above : TreeRow
  pub there : slice_get rows place ≡ Some above
  pub step : row.depth ≡ above.depth + 1
  pub refines : (part : NodePart) → slice_get parts row.number ≡ Some part → part.node.parent ≡ Some above.number
  pub between : (k : ℕ) (other : TreeRow) → place < k → k < i → slice_get rows k ≡ Some other → above.depth < other.depth

abbrev pub TreeIsOfParents : Type 0
TreeIsOfParents = (parts : List NodePart) (i : ℕ) (row : TreeRow) → slice_get (truth_tree parts) i ≡ Some row → 0 < row.depth
    → StandsBelow parts (truth_tree parts) i row
