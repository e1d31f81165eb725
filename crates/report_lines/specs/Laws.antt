-- From the line of a part that part is read, but for what isn't printed of a node.
use Rattle.std.specs.Prelude.{ℕ, ◌≡◌, Option, Some, None, List, [], ◌∷◌, ◌++◌}
use Rattle.fold_hist.specs.declared.bin.Bin.{Bin}
use Rattle.report.specs.SearchTexts.{node_line}
use Rattle.report.specs.ShownTexts.{bin_line, histogram_head, refused_line}
use Rattle.report.specs.Text.{hart_line}
use Rattle.report.specs.declared.parts.HartPart.{HartPart}
use Rattle.report.specs.declared.parts.NodePart.{NodePart}
use Rattle.report.specs.declared.parts.RefusedPart.{RefusedPart}
use Rattle.report.specs.declared.parts.ShownPart.{ShownPart}
use Rattle.w3_search.specs.declared.node.Node.{Node}
use Rattle.w3_search.specs.declared.node.NodeState.{NodeState}
use Rattle.w3_search.specs.declared.node.NodeState.TheVariants.{Waiting, Active, Confirmed, Rejected, Barred, Unfinished}
use Rattle.report_lines.specs.Lines.{bin_of_line, bins_of_line, hart_of_line, histogram_of_line, node_of_line, refused_of_line, told_node, window_of_line}
use Rattle.report_lines.specs.Readable.{Is32Bit, Is64Bit, IsBin, IsHartPart, IsHistogramPart, IsNodePart, IsRefusedPart}

-- the line, with its LF, is this text
abbrev pub IsLine : List ℕ → List ℕ → Type 0
IsLine line text = line ++ 10 ∷ [] ≡ text

abbrev pub HartIsRead : Type 0
HartIsRead = (n : ℕ) (part : HartPart) (line : List ℕ) → IsHartPart part → IsLine line (hart_line n part) → hart_of_line line ≡ part

abbrev pub RefusedIsRead : Type 0
RefusedIsRead = (part : RefusedPart) (line : List ℕ) → IsRefusedPart part → IsLine line (refused_line part) → refused_of_line line ≡ part

abbrev pub BinIsRead : Type 0
BinIsRead = (n : ℕ) (bin : Bin) (line : List ℕ) → IsBin bin → IsLine line (bin_line n bin) → bin_of_line line ≡ bin

-- the histogram, and how many bins are said to follow
abbrev pub HistogramIsRead : Type 0
HistogramIsRead = (bins : ℕ) (part : ShownPart) (line : List ℕ) → Is64Bit bins → IsHistogramPart part → IsLine line (histogram_head bins part)
    → (histogram_of_line line ≡ record part { bins = [] }) × (bins_of_line line ≡ bins)

-- ---- nodes

-- what is printed of a node in this state
abbrev pub printed_in : Node → NodeState → Node
printed_in node Waiting = told_node node.parent (Unfinished node.seen) 0 0 0 0
printed_in node Active = told_node node.parent (Unfinished node.seen) 0 0 0 0
printed_in node Confirmed = told_node node.parent Confirmed node.value node.ticks node.from node.to
printed_in node Rejected = told_node node.parent Rejected node.value node.ticks node.from node.to
printed_in node (Barred cause) = told_node node.parent (Barred cause) 0 0 0 0
printed_in node (Unfinished seen) = told_node node.parent (Unfinished seen) 0 0 0 0

abbrev pub printed_node : NodePart → NodePart
printed_node part = record part { node = printed_in part.node part.node.state }

-- the window that a line of a node in this state tells
abbrev pub told_window : ℕ → NodeState → Option ℕ
told_window window Waiting = Some window
told_window window Active = Some window
told_window window (Unfinished seen) = Some window
told_window window Confirmed = None
told_window window Rejected = None
told_window window (Barred cause) = None

abbrev pub NodeIsRead : Type 0
NodeIsRead = (window n : ℕ) (part : NodePart) (line : List ℕ) → Is32Bit window → IsNodePart part → IsLine line (node_line window n part)
    → (node_of_line line ≡ printed_node part) × (window_of_line line ≡ told_window window part.node.state)
