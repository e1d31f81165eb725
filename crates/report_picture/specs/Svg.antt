-- A report as one picture, 1,000 pixels wide.
use Rattle.std.specs.Prelude.{ℕ, ◌+◌, ◌*◌, Option, Some, None, List, [], ◌∷◌, ◌++◌, codes, length, slice_get}
use Rattle.std.specs.Fmt.{decimal}
use Rattle.std.specs.Option.{option_map_or}
use Rattle.report.specs.declared.parts.HartPart.{HartPart}
use Rattle.report.specs.declared.parts.NodePart.{NodePart}
use Rattle.report.specs.declared.parts.ReportParts.{ReportParts}
use Rattle.report.specs.declared.parts.SearchPart.{SearchPart}
use Rattle.report_view.specs.Searches.{percent}
use Rattle.report_picture.specs.Escapes.{clipped, escaped, escaped_pair}
use Rattle.report_picture.specs.Labels.{hart_name, node_name, node_window}
use Rattle.report_picture.specs.TimeLines.{time_lines, time_lines_height}
use Rattle.report_picture.specs.TreeLines.{tree_lines}
use Rattle.report_picture.specs.declared.tree_line.TreeLine.{TreeLine}
use Rattle.report_picture.specs.declared.tree_line.TreeLine.TheVariants.{Phase, Node}

-- what a picture of some height begins with
unfoldable pub svg_head : ℕ → List ℕ
svg_head height =
    codes "<svg xmlns=\"http://www.w3.org/2000/svg\" viewBox=\"0 0 1000 " ++ decimal height
    ++ codes "\" font-family=\"monospace\" font-size=\"12\" fill=\"#222\">\n<title>Report of a run</title>\n<rect width=\"1000\" height=\""
    ++ decimal height ++ codes "\" fill=\"#fff\"/>\n"

-- parts that stand so far down
unfoldable pub moved_down : ℕ → List ℕ → List ℕ
moved_down y text = codes "<g transform=\"translate(0 " ++ decimal y ++ codes ")\">\n" ++ text ++ codes "</g>\n"

-- ---- harts

unfoldable pub hart_line : ℕ → HartPart → List ℕ
hart_line n part = codes "<text x=\"20\" y=\"" ++ decimal (n * 18 + 24) ++ codes "\">" ++ hart_name n part ++ codes "</text>\n"

abbrev pub hart_lines : ℕ → List HartPart → List ℕ
hart_lines n [] = []
hart_lines n (part ∷ parts) = hart_line n part ++ hart_lines (n + 1) parts

abbrev pub harts_height : List HartPart → ℕ
harts_height harts = length harts * 18 + 24

-- ---- the search

unfoldable pub phase_row : ℕ → NodePart → List ℕ
phase_row n part = codes "<text x=\"20\" y=\"" ++ decimal (n * 18 + 40) ++ codes "\" font-weight=\"bold\">phase " ++ escaped (clipped part.phase) ++ codes "</text>\n"

-- the hypothesis and the whole focus where it is pointed at, the share, and the name and the window, 12 pixels on for each node above
unfoldable pub node_row : ℕ → ℕ → NodePart → List ℕ
node_row n depth part =
    codes "<g transform=\"translate(20 " ++ decimal (n * 18 + 40) ++ codes ")\"><title>" ++ escaped_pair part.hypothesis part.focus
    ++ codes "</title>\n<text x=\"50\" text-anchor=\"end\">" ++ percent part.node.value part.node.ticks
    ++ codes "</text>\n<text x=\"" ++ decimal (depth * 12 + 62) ++ codes "\">" ++ escaped (clipped (node_name depth part))
    ++ node_window part ++ codes "</text></g>\n"

abbrev pub tree_row : List NodePart → ℕ → TreeLine → List ℕ
tree_row parts n (Phase number) = option_map_or (phase_row n) (slice_get parts number) []
tree_row parts n (Node number depth next) = option_map_or (node_row n depth) (slice_get parts number) []

abbrev pub tree_rows : List NodePart → ℕ → List TreeLine → List ℕ
tree_rows parts n [] = []
tree_rows parts n (line ∷ lines) = tree_row parts n line ++ tree_rows parts (n + 1) lines

-- how many nodes there are
unfoldable pub nodes_heading : ℕ → List ℕ
nodes_heading count = codes "<text x=\"20\" y=\"18\" fill=\"#555\">what was true, of " ++ decimal count ++ codes " nodes of the search</text>\n"

unfoldable pub search_rows : List NodePart → List TreeLine → List ℕ
search_rows parts lines = nodes_heading (length parts) ++ tree_rows parts 0 lines

abbrev pub nodes_of : Option SearchPart → List NodePart
nodes_of None = []
nodes_of (Some search) = search.nodes

abbrev pub search_of : Option SearchPart → List TreeLine → List ℕ
search_of None lines = []
search_of (Some search) lines = search_rows search.nodes lines

-- ---- all

-- the harts, the time lines below them, and the search below these
unfoldable pub picture : ReportParts → List TreeLine → List ℕ
picture parts lines =
    svg_head (harts_height parts.harts + time_lines_height parts.shown + length lines * 18 + 40)
    ++ hart_lines 0 parts.harts
    ++ moved_down (harts_height parts.harts) (time_lines parts.shown)
    ++ moved_down (harts_height parts.harts + time_lines_height parts.shown) (search_of parts.search lines)
    ++ codes "</svg>\n"

abbrev pub report_svg : ReportParts → List ℕ
report_svg parts = picture parts (tree_lines (nodes_of parts.search))
