use Rattle.std.proofs.Common.{◌≡◌, ◌++◌, drop}
use Rattle.report_diff.specs.Sums.{shown_names}
use Rattle.report_diff.proofs.histograms.shown_names.Given as goal

-- the names so far, and those that are left, are all
abbrev pub invariant-loop-part : goal.invariant-loop-part
invariant-loop-part l = l.names.items ++ shown_names (drop l.part-index l.parts) ≡ shown_names l.parts
