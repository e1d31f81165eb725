-- The tree of what was true, line by line.
use Rattle.std.specs.Prelude.{ℕ, ◌==◌, ◌&&◌, if◌then◌else◌, not, bytes_eq, Bool, false, Option, Some, None, List, [], ◌∷◌, ◌++◌, slice_get}
use Rattle.std.specs.Option.{option_map_or}
use Rattle.report.specs.declared.parts.NodePart.{NodePart}
use Rattle.report_view.specs.Searches.{phase_with}
use Rattle.report_view.specs.Trees.{truth_tree}
use Rattle.report_view.specs.declared.tree_row.TreeRow.{TreeRow}
use Rattle.report_picture.specs.declared.tree_line.TreeLine.{TreeLine}
use Rattle.report_picture.specs.declared.tree_line.TreeLine.TheVariants.{Phase, Node}

-- a root has another phase than the last root
abbrev pub begins_phase : Option (List ℕ) → ℕ → Option NodePart → Bool
begins_phase before depth None = false
begins_phase before depth (Some part) = (depth == 0) && not (option_map_or (bytes_eq part.phase) before false)

-- the depth of the row behind
abbrev pub first_depth : List TreeRow → ℕ
first_depth [] = 0
first_depth (row ∷ rows) = row.depth

-- a line for each phase that begins, and one for each node
abbrev pub lines_from : List NodePart → Option (List ℕ) → List TreeRow → List TreeLine
lines_from parts before [] = []
lines_from parts before (row ∷ rows) =
    (if begins_phase before row.depth (slice_get parts row.number) then Phase row.number ∷ [] else [])
    ++ Node row.number row.depth (first_depth rows) ∷ lines_from parts (phase_with before row.depth (slice_get parts row.number)) rows

abbrev pub tree_lines : List NodePart → List TreeLine
tree_lines parts = lines_from parts None (truth_tree parts)
