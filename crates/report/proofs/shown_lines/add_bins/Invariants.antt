use Rattle.std.proofs.Common.{◌≡◌, ◌++◌, drop}
use Rattle.report.specs.ShownTexts.{bin_lines}
use Rattle.report.proofs.shown_lines.add_bins.Given as goal

-- what is written, and the lines that are left, make all the lines
abbrev pub invariant-loop-number : goal.invariant-loop-number
invariant-loop-number l = l.out.items ++ bin_lines l.number (drop l.number l.bins) ≡ l.initial.out.items ++ bin_lines 0 l.bins
