-- A report as a value of JSON.
use Rattle.std.specs.Prelude.{ℕ, if◌then◌else◌, Option, Some, None, List, [], ◌∷◌, ◌++◌, codes, map}
use Rattle.pn_types.specs.Texts.{cause_text, stop_text}
use Rattle.pn_types.specs.declared.pick.PickCause.{PickCause}
use Rattle.fold_hist.specs.declared.bin.Bin.{Bin}
use Rattle.report.specs.declared.parts.HartPart.{HartPart}
use Rattle.report.specs.declared.parts.NodePart.{NodePart}
use Rattle.report.specs.declared.parts.RefusedPart.{RefusedPart}
use Rattle.report.specs.declared.parts.ReportParts.{ReportParts}
use Rattle.report.specs.declared.parts.SearchPart.{SearchPart}
use Rattle.report.specs.declared.parts.ShownPart.{ShownPart}
use Rattle.w3_search.specs.declared.node.Node.{Node}
use Rattle.json.specs.Json.{Json, null, boolean, string}
use Rattle.json.specs.Print.{print}
use Rattle.json.specs.Tree.{json_tokens}
use Rattle.report_json.specs.Fields.{bar_cause, of_verdict, seen_by, state_word, stop_code}
use Rattle.report_json.specs.Values.{array_of, byte_string, natural, natural_or_null, object_of, signed}

abbrev pub hart_value : HartPart → Json
hart_value hart = object_of (
    (codes "ticks", natural hart.ticks)
    ∷ (codes "stop", string (stop_text hart.stop))
    ∷ (codes "code", natural_or_null (stop_code hart.stop))
    ∷ (codes "pc", natural hart.pc)
    ∷ [])

abbrev pub refused_value : RefusedPart → Json
refused_value wish = object_of (
    (codes "wish", string (if wish.show then codes "show" else codes "drop"))
    ∷ (codes "metric", byte_string wish.metric)
    ∷ (codes "focus", byte_string wish.focus)
    ∷ (codes "at", natural wish.at)
    ∷ (codes "cause", string (cause_text wish.cause))
    ∷ [])

abbrev pub cause_or_null : Option PickCause → Json
cause_or_null None = null
cause_or_null (Some cause) = string (cause_text cause)

abbrev pub bin_value : Bin → Json
bin_value bin = object_of (
    (codes "from", natural bin.from)
    ∷ (codes "to", natural bin.to)
    ∷ (codes "value", signed bin.sum)
    ∷ [])

abbrev pub shown_value : ShownPart → Json
shown_value shown = object_of (
    (codes "metric", byte_string shown.metric)
    ∷ (codes "focus", byte_string shown.focus)
    ∷ (codes "units", byte_string shown.units)
    ∷ (codes "from", natural_or_null shown.from)
    ∷ (codes "width", natural shown.width)
    ∷ (codes "bins", array_of (map bin_value shown.bins))
    ∷ [])

-- where a node comes from, and its hypothesis at its focus
abbrev pub origin : NodePart → List (List ℕ × Json)
origin part =
    (codes "phase", byte_string part.phase)
    ∷ (codes "parent", natural_or_null part.node.parent)
    ∷ (codes "hypothesis", byte_string part.hypothesis)
    ∷ (codes "focus", byte_string part.focus)
    ∷ []

-- what came of a node
abbrev pub came_to : Node → List (List ℕ × Json)
came_to node =
    (codes "state", string (state_word node.state))
    ∷ (codes "seen", natural_or_null (seen_by node.state node.seen))
    ∷ (codes "value", natural_or_null (of_verdict node.state node.value))
    ∷ (codes "ticks", natural_or_null (of_verdict node.state node.ticks))
    ∷ (codes "from", natural_or_null (of_verdict node.state node.from))
    ∷ (codes "to", natural_or_null (of_verdict node.state node.to))
    ∷ (codes "cause", cause_or_null (bar_cause node.state))
    ∷ []

abbrev pub node_value : NodePart → Json
node_value part = object_of (origin part ++ came_to part.node)

abbrev pub search_value : SearchPart → Json
search_value search = object_of (
    (codes "full", boolean search.full)
    ∷ (codes "window", natural search.window)
    ∷ (codes "nodes", array_of (map node_value search.nodes))
    ∷ [])

abbrev pub search_or_null : Option SearchPart → Json
search_or_null None = null
search_or_null (Some search) = search_value search

-- the report, of a program with so many function symbols that are no procedures
unfoldable pub report_value : ℕ → ReportParts → Json
report_value skipped parts = object_of (
    (codes "format", string (codes "paradyn report 1"))
    ∷ (codes "skipped", natural skipped)
    ∷ (codes "samples", natural parts.samples)
    ∷ (codes "harts", array_of (map hart_value parts.harts))
    ∷ (codes "output", byte_string parts.output)
    ∷ (codes "refused", array_of (map refused_value parts.refused))
    ∷ (codes "shown", array_of (map shown_value parts.shown))
    ∷ (codes "search", search_or_null parts.search)
    ∷ [])

-- its text: without spaces
unfoldable pub report_line : ℕ → ReportParts → List ℕ
report_line skipped parts = print (json_tokens (report_value skipped parts))

-- and with an LF at the end
unfoldable pub report_json : ℕ → ReportParts → List ℕ
report_json skipped parts = report_line skipped parts ++ codes "\n"
