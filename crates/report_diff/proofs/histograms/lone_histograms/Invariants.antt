use Rattle.std.proofs.Common.{◌≡◌, ◌++◌, drop}
use Rattle.report_diff.specs.Sums.{lone_histograms}
use Rattle.report_diff.proofs.histograms.lone_histograms.Given as goal

-- the lines so far, and those that are left, are all
abbrev pub invariant-loop-found : goal.invariant-loop-found
invariant-loop-found l = l.lines.items ++ lone_histograms l.report l.parts (drop l.found-index l.matches) ≡ lone_histograms l.report l.parts l.matches
