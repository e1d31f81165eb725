use Rattle.std.proofs.Common.{◌≡◌, ◌≤◌, drop}
use Rattle.std.specs.List.{AllByRecursion}
use Rattle.report_view.specs.Trees.{tree_from, truth_tree}
use Rattle.report_view.proofs.trees.truth_tree.Given as goal

-- the rest put into the tree so far makes the whole tree, and no row is deeper than there are nodes so far
abbrev pub invariant-loop-number : goal.invariant-loop-number
invariant-loop-number l = record {
  tree : tree_from l.number (drop l.number l.parts) l.rows.items ≡ truth_tree l.parts;
  depths : AllByRecursion (λ row. row.depth ≤ l.number) l.rows.items;
}
