use Rattle.std.proofs.Common.{◌≡◌, ◌++◌, take, drop}
use Rattle.report_view.specs.Trees.{behind_deeper}
use Rattle.report_view.specs.declared.tree_row.TreeRow.{TreeRow}
use Rattle.report_view.proofs.trees.end_of_deeper.Given as goal

-- the rows from the beginning on are deeper so far
abbrev pub invariant-loop-place : goal.invariant-loop-place
invariant-loop-place l =
    (row : TreeRow)
    → take l.place l.rows ++ behind_deeper l.depth row (drop l.place l.rows)
    ≡ take l.start l.rows ++ behind_deeper l.depth row (drop l.start l.rows)
