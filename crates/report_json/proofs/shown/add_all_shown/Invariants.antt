use Rattle.std.proofs.Common.{◌≡◌, ◌++◌, drop, map}
use Rattle.json.specs.Tree.{items_tokens}
use Rattle.report_json.specs.Report.{shown_value}
use Rattle.report_json.specs.Values.{items_of}
use Rattle.report_json.proofs.shown.add_all_shown.Given as goal

-- the tokens that are written, and those of the items that are left, make all
abbrev pub invariant-loop-part : goal.invariant-loop-part
invariant-loop-part l =
    (l.out.before ≡ l.initial.out.before)
    × (l.out.tokens ++ items_tokens (items_of (map shown_value (drop l.part-index l.parts))) ≡ l.initial.out.tokens ++ items_tokens (items_of (map shown_value l.parts)))
