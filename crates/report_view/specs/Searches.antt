-- How many nodes of a search came to what, and the lines of a tree.
use Rattle.std.specs.Prelude.{ℕ, ◌*◌, ◌/◌, ◌%◌, ◌==◌, ◌&&◌, nat_le, nat_lt, if◌then◌else◌, not, bytes_eq, Bool, true, false, Option, Some, None, List, [], ◌∷◌, ◌++◌, codes, length, replicate, slice_get}
use Rattle.std.specs.Fmt.{decimal}
use Rattle.std.specs.List.{count_by}
use Rattle.std.specs.Option.{option_map_or}
use Rattle.pn_types.specs.declared.pick.BarCause.{BarCause}
use Rattle.pn_types.specs.declared.pick.BarCause.TheVariants.{NoConstraint, TooManySites, TooManyStmts, OverCost, NoSlot, NoRoom, Unmovable}
use Rattle.report.specs.declared.parts.NodePart.{NodePart}
use Rattle.report.specs.declared.parts.SearchPart.{SearchPart}
use Rattle.w3_search.specs.declared.node.NodeState.{NodeState}
use Rattle.w3_search.specs.declared.node.NodeState.TheVariants.{Waiting, Active, Rejected, Barred, Unfinished}
use Rattle.report_view.specs.Foci.{short_focus}
use Rattle.report_view.specs.Harts.{amount_text, aligned}
use Rattle.report_view.specs.Trees.{was_true}
use Rattle.report_view.specs.declared.tree_row.TreeRow.{TreeRow}

-- ---- how many

abbrev pub is_false_state : NodeState → Bool
is_false_state Rejected = true
is_false_state state = false

abbrev pub is_waiting_state : NodeState → Bool
is_waiting_state Waiting = true
is_waiting_state Active = true
is_waiting_state (Unfinished seen) = true
is_waiting_state state = false

-- the place of a cause among the causes, from 0 on
abbrev pub bar_kind : BarCause → ℕ
bar_kind (NoConstraint axis) = 0
bar_kind (TooManySites n) = 1
bar_kind (TooManyStmts at) = 2
bar_kind (OverCost n) = 3
bar_kind (NoSlot n) = 4
bar_kind (NoRoom n) = 5
bar_kind (Unmovable at) = 6

abbrev pub is_barred_state : ℕ → NodeState → Bool
is_barred_state kind (Barred cause) = bar_kind cause == kind
is_barred_state kind state = false

abbrev pub count_in_state : (NodeState → Bool) → List NodePart → ℕ
count_in_state is parts = count_by (λ part. is part.node.state) parts

-- ---- what is said of it

-- a line on so many nodes, where there are any
unfoldable pub count_line : ℕ → List ℕ → List ℕ
count_line n what = if n == 0 then [] else codes "  " ++ amount_text n (codes "node") (codes "nodes") ++ codes " " ++ what ++ codes "\n"

unfoldable pub barred_line : List NodePart → ℕ → List ℕ → List ℕ
barred_line parts kind cause = count_line (count_in_state (is_barred_state kind) parts) (codes "not tested: " ++ cause)

unfoldable pub barred_lines : List NodePart → List ℕ
barred_lines parts =
    barred_line parts 0 (codes "the metric can't be confined so") ++ barred_line parts 1 (codes "too many places to instrument")
    ++ barred_line parts 2 (codes "too many statements at one place") ++ barred_line parts 3 (codes "the cost alone is above the limit")
    ++ barred_line parts 4 (codes "no room for variables") ++ barred_line parts 5 (codes "no room for instruments")
    ++ barred_line parts 6 (codes "a word there can't be moved")

-- what to do where a quarter of the nodes or more waited to the end
unfoldable pub waiting_advice : ℕ → ℕ → List ℕ
waiting_advice waiting all =
    if nat_lt 0 waiting && nat_le all (waiting * 4) then codes "  a smaller --width or window, a greater cost, or a longer run lets more of them end\n" else []

abbrev pub full_line : Bool → List ℕ
full_line full = if full then codes "  there was no room for more nodes\n" else []

-- how many nodes came to what
unfoldable pub state_lines : List NodePart → List ℕ
state_lines parts =
    count_line (count_by was_true parts) (codes "true") ++ count_line (count_in_state is_false_state parts) (codes "false")
    ++ barred_lines parts
    ++ count_line (count_in_state is_waiting_state parts) (codes "not tested to the end")
    ++ waiting_advice (count_in_state is_waiting_state parts) (length parts)

unfoldable pub counts_lines : SearchPart → List ℕ
counts_lines s =
    codes "\nsearch of " ++ amount_text (length s.nodes) (codes "node") (codes "nodes") ++ codes "\n"
    ++ state_lines s.nodes ++ full_line s.full

-- ---- the tree

-- a value for a hundred ticks, with one decimal
abbrev pub percent : ℕ → ℕ → List ℕ
percent value ticks =
    if ticks == 0 then codes "0.0%" else decimal (value * 1000 / ticks / 10) ++ codes "." ++ decimal (value * 1000 / ticks % 10) ++ codes "%"

-- the hypothesis, at a root
abbrev pub hypothesis_text : ℕ → NodePart → List ℕ
hypothesis_text depth part = if depth == 0 then part.hypothesis ++ codes ", " else []

-- the phase, where a root has another than the last root
unfoldable pub phase_line : Option (List ℕ) → ℕ → NodePart → List ℕ
phase_line before depth part =
    if (depth == 0) && not (option_map_or (bytes_eq part.phase) before false) then codes "phase " ++ part.phase ++ codes "\n" else []

-- from when to when it was tested
unfoldable pub window_text : NodePart → List ℕ
window_text part = codes " (" ++ decimal part.node.from ++ codes " to " ++ decimal part.node.to ++ codes ")\n"

-- the share, the name and the window
unfoldable pub tree_line : ℕ → NodePart → List ℕ
tree_line depth part =
    aligned 9 (percent part.node.value part.node.ticks) ++ codes "  " ++ replicate (2 * depth) 32 ++ hypothesis_text depth part
    ++ short_focus part.focus ++ window_text part

-- the lines of a node at this depth, if there is one
abbrev pub row_lines : Option (List ℕ) → ℕ → Option NodePart → List ℕ
row_lines before depth None = []
row_lines before depth (Some part) = phase_line before depth part ++ tree_line depth part

-- the phase of the last root so far
abbrev pub phase_with : Option (List ℕ) → ℕ → Option NodePart → Option (List ℕ)
phase_with before depth None = before
phase_with before depth (Some part) = if depth == 0 then Some part.phase else before

-- the lines of rows, where the last root before them had this phase
abbrev pub tree_lines : List NodePart → Option (List ℕ) → List TreeRow → List ℕ
tree_lines parts before [] = []
tree_lines parts before (row ∷ rows) =
    row_lines before row.depth (slice_get parts row.number)
    ++ tree_lines parts (phase_with before row.depth (slice_get parts row.number)) rows
