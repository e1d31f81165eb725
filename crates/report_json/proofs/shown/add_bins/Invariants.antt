use Rattle.std.proofs.Common.{◌≡◌, ◌++◌, drop, map}
use Rattle.json.specs.Tree.{items_tokens}
use Rattle.report_json.specs.Report.{bin_value}
use Rattle.report_json.specs.Values.{items_of}
use Rattle.report_json.proofs.shown.add_bins.Given as goal

-- the tokens that are written, and those of the items that are left, make all
abbrev pub invariant-loop-bin : goal.invariant-loop-bin
invariant-loop-bin l =
    (l.out.before ≡ l.initial.out.before)
    × (l.out.tokens ++ items_tokens (items_of (map bin_value (drop l.bin-index l.bins))) ≡ l.initial.out.tokens ++ items_tokens (items_of (map bin_value l.bins)))
