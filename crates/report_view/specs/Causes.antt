-- The causes that a search found: what was true at all harts, where nothing that refines it was.
use Rattle.std.specs.Prelude.{ℕ, zero, suc, ◌==◌, ◌&&◌, if◌then◌else◌, not, max, Bool, false, List, [], ◌∷◌, ◌++◌, codes, filter, flat_map, length, slice_get}
use Rattle.std.specs.List.{list_all, list_any, slice_split}
use Rattle.std.specs.Option.{option_map_or}
use Rattle.pn_text.specs.Bytes.{begins_with}
use Rattle.report.specs.declared.parts.NodePart.{NodePart}
use Rattle.report_view.specs.Searches.{tree_line}
use Rattle.report_view.specs.Trees.{was_true}
use Rattle.report_view.specs.declared.tree_row.TreeRow.{TreeRow}

-- the focus selects no hart
abbrev pub is_at_all_harts : List ℕ → Bool
is_at_all_harts focus = list_all (λ part. not (begins_with (codes "/Machine/") part)) (slice_split (λ byte. byte == 44) focus)

abbrev pub is_true_at_all : NodePart → Bool
is_true_at_all part = was_true part && is_at_all_harts part.focus

-- some node that was true at all harts refines the node of a number
abbrev pub is_refined : ℕ → List NodePart → Bool
is_refined number parts = list_any (λ part. option_map_or (λ parent. parent == number) part.node.parent false && is_true_at_all part) parts

abbrev pub is_cause : List NodePart → TreeRow → Bool
is_cause parts row = option_map_or is_true_at_all (slice_get parts row.number) false && not (is_refined row.number parts)

-- the greatest depth
abbrev pub deepest : List TreeRow → ℕ
deepest [] = 0
deepest (row ∷ rows) = max row.depth (deepest rows)

abbrev pub cause_line : List NodePart → TreeRow → List ℕ
cause_line parts row = option_map_or (tree_line 0) (slice_get parts row.number) []

abbrev pub causes_at : List NodePart → List TreeRow → ℕ → List ℕ
causes_at parts causes depth = flat_map (cause_line parts) (filter (λ row. row.depth == depth) causes)

-- the causes from a depth on to the roots
unfoldable pub causes_from : List NodePart → List TreeRow → ℕ → List ℕ
causes_from parts causes zero = causes_at parts causes zero
causes_from parts causes (suc depth) = causes_at parts causes (suc depth) ++ causes_from parts causes depth

unfoldable pub some_causes : List NodePart → List TreeRow → List ℕ
some_causes parts causes = codes "causes at all harts, the deepest first\n" ++ causes_from parts causes (deepest causes)

unfoldable pub causes_text : List NodePart → List TreeRow → List ℕ
causes_text parts causes = if length causes == 0 then [] else some_causes parts causes

-- the causes among the rows of a tree, the deepest first
unfoldable pub causes_lines : List NodePart → List TreeRow → List ℕ
causes_lines parts rows = causes_text parts (filter (is_cause parts) rows)
