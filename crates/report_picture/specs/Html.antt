-- A report as one page, without scripts.
use Rattle.std.specs.Prelude.{ℕ, ◌+◌, ◌-◌, ◌==◌, nat_lt, zero, suc, if◌then◌else◌, Option, Some, None, List, [], ◌∷◌, ◌++◌, codes, flat_map, length, slice_get}
use Rattle.std.specs.Fmt.{decimal}
use Rattle.std.specs.Option.{option_map_or}
use Rattle.pn_types.specs.Texts.{address, stop_text}
use Rattle.report.specs.declared.parts.HartPart.{HartPart}
use Rattle.report.specs.declared.parts.NodePart.{NodePart}
use Rattle.report.specs.declared.parts.ReportParts.{ReportParts}
use Rattle.report.specs.declared.parts.SearchPart.{SearchPart}
use Rattle.report.specs.declared.parts.ShownPart.{ShownPart}
use Rattle.report_view.specs.Searches.{percent}
use Rattle.report_picture.specs.Escapes.{escaped, escaped_pair}
use Rattle.report_picture.specs.Labels.{node_name, node_window}
use Rattle.report_picture.specs.Svg.{nodes_of, svg_head}
use Rattle.report_picture.specs.TimeLines.{time_lines, time_lines_height}
use Rattle.report_picture.specs.TreeLines.{tree_lines}
use Rattle.report_picture.specs.declared.tree_line.TreeLine.{TreeLine}
use Rattle.report_picture.specs.declared.tree_line.TreeLine.TheVariants.{Phase, Node}

-- ---- harts

-- how and where it ended
unfoldable pub end_cells : HartPart → List ℕ
end_cells part = stop_text part.stop ++ codes "</td><td>" ++ address part.pc

unfoldable pub hart_cells : ℕ → HartPart → List ℕ
hart_cells n part =
    codes "<tr><td>" ++ decimal n ++ codes "</td><td>" ++ decimal part.ticks ++ codes "</td><td>" ++ end_cells part
    ++ codes "</td></tr>\n"

abbrev pub hart_table_rows : ℕ → List HartPart → List ℕ
hart_table_rows n [] = []
hart_table_rows n (part ∷ parts) = hart_cells n part ++ hart_table_rows (n + 1) parts

unfoldable pub hart_table : List HartPart → List ℕ
hart_table harts =
    codes "<h2>Harts</h2>\n<table>\n<tr><th>hart</th><th>ticks</th><th>end</th><th>at</th></tr>\n" ++ hart_table_rows 0 harts ++ codes "</table>\n"

-- ---- the search

-- what is said of a node, and the hypothesis and the whole focus where it is pointed at
unfoldable pub node_text : ℕ → NodePart → List ℕ
node_text depth part =
    codes "<span title=\"" ++ escaped_pair part.hypothesis part.focus ++ codes "\">" ++ percent part.node.value part.node.ticks
    ++ codes " " ++ escaped (node_name depth part) ++ node_window part ++ codes "</span>"

-- a node with nodes below it can be closed, and is open
abbrev pub opening : ℕ → ℕ → List ℕ
opening depth next = if nat_lt depth next then codes "<details open><summary>" else codes "<p>"

-- so many nodes end with all that is below them
abbrev pub ends : ℕ → List ℕ
ends zero = []
ends (suc n) = codes "</details>\n" ++ ends n

unfoldable pub closing : ℕ → ℕ → List ℕ
closing depth next = (if nat_lt depth next then codes "</summary>\n" else codes "</p>\n") ++ ends (depth - next)

unfoldable pub node_lines : List NodePart → ℕ → ℕ → ℕ → List ℕ
node_lines parts number depth next =
    opening depth next ++ option_map_or (node_text depth) (slice_get parts number) [] ++ closing depth next

unfoldable pub phase_heading : NodePart → List ℕ
phase_heading part = codes "<h3>phase " ++ escaped part.phase ++ codes "</h3>\n"

abbrev pub html_line : List NodePart → TreeLine → List ℕ
html_line parts (Phase number) = option_map_or phase_heading (slice_get parts number) []
html_line parts (Node number depth next) = node_lines parts number depth next

unfoldable pub search_part : List NodePart → List TreeLine → List ℕ
search_part parts lines =
    codes "<h2>What was true, of " ++ decimal (length parts) ++ codes " nodes of the search</h2>\n" ++ flat_map (html_line parts) lines

abbrev pub search_of : Option SearchPart → List TreeLine → List ℕ
search_of None lines = []
search_of (Some search) lines = search_part search.nodes lines

-- ---- all

-- the picture of the time lines, in a box that scrolls where it is too wide
unfoldable pub some_lines_part : List ShownPart → List ℕ
some_lines_part shown =
    codes "<h2>Time lines</h2>\n<div>\n" ++ svg_head (time_lines_height shown) ++ time_lines shown ++ codes "</svg>\n</div>\n"

unfoldable pub time_lines_part : List ShownPart → List ℕ
time_lines_part shown = if length shown == 0 then [] else some_lines_part shown

unfoldable pub page_meta : List ℕ
page_meta =
    codes "<!DOCTYPE html>\n<html lang=\"en\">\n<head>\n<meta charset=\"utf-8\">\n"
    ++ codes "<meta name=\"viewport\" content=\"width=device-width, initial-scale=1\">\n<title>Report of a run</title>\n"

unfoldable pub page_style : List ℕ
page_style =
    codes "<style>\nbody{max-width:1100px;margin:0 auto;padding:0 1em;font:14px/1.5 monospace;color:#222;background:#fff}\n"
    ++ codes "h3{margin:1em 0 0}\np{margin:0 0 0 2em}\ndetails{margin-left:1em}\np,summary{overflow-wrap:anywhere}\n"

unfoldable pub page_start : List ℕ
page_start =
    codes "table{border-collapse:collapse;max-width:100%}\nth,td{padding:0 1em 0 0;text-align:left}\n"
    ++ codes "div{max-width:100%;overflow-x:auto}\nsvg{display:block;width:100%;min-width:800px}\n</style>\n</head>\n<body>\n<h1>Report of a run</h1>\n"

unfoldable pub page_head : List ℕ
page_head = page_meta ++ page_style ++ page_start

unfoldable pub page : ReportParts → List TreeLine → List ℕ
page parts lines =
    page_head ++ hart_table parts.harts ++ time_lines_part parts.shown ++ search_of parts.search lines ++ codes "</body>\n</html>\n"

abbrev pub report_html : ReportParts → List ℕ
report_html parts = page parts (tree_lines (nodes_of parts.search))
