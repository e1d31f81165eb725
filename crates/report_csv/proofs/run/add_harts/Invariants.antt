use Rattle.std.proofs.Common.{◌≡◌, ◌++◌, drop}
use Rattle.report_csv.specs.Cells.{lines}
use Rattle.report_csv.specs.Report.{hart_rows}
use Rattle.report_csv.specs.Writers.{IsBetween, written}
use Rattle.report_csv.proofs.run.add_harts.Given as goal

-- what is written, and the rows that are left, make all the rows
abbrev pub invariant-loop-number : goal.invariant-loop-number
invariant-loop-number l =
    IsBetween l.out × (written l.out ++ lines (hart_rows l.number (drop l.number l.parts)) ≡ written l.initial.out ++ lines (hart_rows 0 l.parts))
