-- What was true in a search, as a tree: each node below the node that it refines.
use Rattle.std.specs.Prelude.{ℕ, ◌+◌, ◌==◌, nat_lt, if◌then◌else◌, Bool, true, false, Option, Some, None, List, [], ◌∷◌, ◌++◌}
use Rattle.std.specs.List.{position}
use Rattle.report.specs.declared.parts.NodePart.{NodePart}
use Rattle.w3_search.specs.declared.node.NodeState.{NodeState}
use Rattle.w3_search.specs.declared.node.NodeState.TheVariants.{Confirmed}
use Rattle.report_view.specs.declared.tree_row.TreeRow.{TreeRow}

abbrev pub is_true_state : NodeState → Bool
is_true_state Confirmed = true
is_true_state state = false

abbrev pub was_true : NodePart → Bool
was_true part = is_true_state part.node.state

-- where a node stands in a tree
unfoldable pub row_place : ℕ → List TreeRow → Option ℕ
row_place number rows = position (λ row. row.number == number) rows

-- behind the rows that are deeper
abbrev pub behind_deeper : ℕ → TreeRow → List TreeRow → List TreeRow
behind_deeper depth row [] = row ∷ []
behind_deeper depth row (r ∷ rs) = if nat_lt depth r.depth then r ∷ behind_deeper depth row rs else row ∷ r ∷ rs

-- a node as the last of those below another; where that isn't in the tree, at its end, as a root
abbrev pub below_parent : ℕ → ℕ → List TreeRow → List TreeRow
below_parent number parent [] = record { number = number; depth = 0 } ∷ []
below_parent number parent (r ∷ rs) =
    if r.number == parent then r ∷ behind_deeper r.depth (record { number = number; depth = r.depth + 1 }) rs
    else r ∷ below_parent number parent rs

abbrev pub with_parent : Option ℕ → ℕ → List TreeRow → List TreeRow
with_parent None number rows = rows ++ record { number = number; depth = 0 } ∷ []
with_parent (Some parent) number rows = below_parent number parent rows

abbrev pub with_true_node : ℕ → NodePart → List TreeRow → List TreeRow
with_true_node number part rows = if was_true part then with_parent part.node.parent number rows else rows

-- the tree of nodes that are numbered from n on, put into a tree
abbrev pub tree_from : ℕ → List NodePart → List TreeRow → List TreeRow
tree_from n [] rows = rows
tree_from n (part ∷ parts) rows = tree_from (n + 1) parts (with_true_node n part rows)

abbrev pub truth_tree : List NodePart → List TreeRow
truth_tree parts = tree_from 0 parts []
