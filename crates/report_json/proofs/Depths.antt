-- How deep the value of a report nests, and that its tokens read back as it.
use Rattle.std.proofs.Common.{◌≡◌, ◌∙◌, ℕ, ◌≤◌, List, [], ◌∷◌, ◌++◌, Option, Some, None, option_and_then, append-nil, ap, map, arith, refl, sym}
use Rattle.json.specs.Json.{Json, if_last, max_depth, value}
use Rattle.json.specs.Lex.{tokens}
use Rattle.json.specs.Print.{print}
use Rattle.json.specs.Token.{Token}
use Rattle.json.specs.Tree.{depth, items_depth, json_tokens}
use Rattle.json.proofs.Printed.Trees.{value-json_tokens}
use Rattle.fold_hist.specs.declared.bin.Bin.{Bin}
use Rattle.report.specs.declared.parts.HartPart.{HartPart}
use Rattle.report.specs.declared.parts.NodePart.{NodePart}
use Rattle.report.specs.declared.parts.RefusedPart.{RefusedPart}
use Rattle.report.specs.declared.parts.ReportParts.{ReportParts}
use Rattle.report.specs.declared.parts.SearchPart.{SearchPart}
use Rattle.report.specs.declared.parts.ShownPart.{ShownPart}
use Rattle.report_json.specs.Fields.{bar_cause, of_verdict, seen_by, stop_code}
use Rattle.report_json.specs.Laws.{IsRead}
use Rattle.report_json.specs.Report.{bin_value, cause_or_null, hart_value, node_value, refused_value, report_line, report_value, search_or_null, shown_value}
use Rattle.report_json.specs.Values.{items_of, natural_or_null}
use Rattle.pn_types.specs.declared.pick.PickCause.{PickCause}

-- items of which none is deeper
items : {A : Type 0} (f : A → Json) (n : ℕ) → ((x : A) → depth (f x) ≤ n) → (xs : List A) → items_depth (items_of (map f xs)) ≤ n
items f n h [] = omega arith
items f n h (x ∷ xs) = omega (arith, h x, items f n h xs)

flat : (o : Option ℕ) → depth (natural_or_null o) ≡ 0
flat None = refl
flat (Some n) = refl

flat_cause : (o : Option PickCause) → depth (cause_or_null o) ≡ 0
flat_cause None = refl
flat_cause (Some cause) = refl

hart : (part : HartPart) → depth (hart_value part) ≤ 1
hart part = rw (flat (stop_code part.stop)) (omega arith)

refused : (part : RefusedPart) → depth (refused_value part) ≤ 1
refused part = omega arith

bin : (b : Bin) → depth (bin_value b) ≤ 1
bin b = omega arith

shown : (part : ShownPart) → depth (shown_value part) ≤ 3
shown part = omega (arith, flat part.from, items bin_value 1 bin part.bins)

node : (part : NodePart) → depth (node_value part) ≤ 1
node part =
    let state = part.node.state in
    rw (
      flat part.node.parent,
      flat (seen_by state part.node.seen),
      flat (of_verdict state part.node.value),
      flat (of_verdict state part.node.ticks),
      flat (of_verdict state part.node.from),
      flat (of_verdict state part.node.to),
      flat_cause (bar_cause state),
    ) (omega arith)

search : (part : Option SearchPart) → depth (search_or_null part) ≤ 3
search None = omega arith
search (Some part) = omega (arith, items node_value 1 node part.nodes)

shallow : (skipped : ℕ) (parts : ReportParts) → depth (report_value skipped parts) ≤ max_depth
unfolding report_value
shallow skipped parts =
    omega (arith, items hart_value 1 hart parts.harts, items refused_value 1 refused parts.refused, items shown_value 3 shown parts.shown, search parts.search)

abbrev last : Option (Json × List Token) → Option Json
last o = option_and_then (λ p. if_last p.0 p.1) o

-- tokens that are read back are read as the value
pub line_is_read : (skipped : ℕ) (parts : ReportParts) (ts : List Token) → ts ≡ json_tokens (report_value skipped parts) → tokens (print ts) ≡ ts → IsRead skipped parts
unfolding report_line
line_is_read skipped parts ts is back =
    let v = report_value skipped parts in
    let same : tokens (print (json_tokens v)) ≡ json_tokens v ++ [] = rw is at back ∙ sym (append-nil (json_tokens v)) in
    ap last (ap (value max_depth) same ∙ value-json_tokens v max_depth [] (shallow skipped parts))
