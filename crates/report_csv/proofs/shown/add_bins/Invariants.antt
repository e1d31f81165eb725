use Rattle.std.proofs.Common.{◌≡◌, ◌++◌, drop}
use Rattle.report_csv.specs.Cells.{lines}
use Rattle.report_csv.specs.Report.{bin_rows}
use Rattle.report_csv.specs.Writers.{IsBetween, written}
use Rattle.report_csv.proofs.shown.add_bins.Given as goal

-- what is written, and the rows that are left, make all the rows
abbrev pub invariant-loop-number : goal.invariant-loop-number
invariant-loop-number l =
    IsBetween l.out × (written l.out ++ lines (bin_rows l.histogram l.number (drop l.number l.bins)) ≡ written l.initial.out ++ lines (bin_rows l.histogram 0 l.bins))
