use Rattle.std.proofs.Common.{◌≡◌, ◌++◌, drop}
use Rattle.report_csv.specs.Cells.{lines}
use Rattle.report_csv.specs.Report.{node_rows}
use Rattle.report_csv.specs.Writers.{IsBetween, written}
use Rattle.report_csv.proofs.search.add_nodes.Given as goal

-- what is written, and the rows that are left, make all the rows
abbrev pub invariant-loop-number : goal.invariant-loop-number
invariant-loop-number l =
    IsBetween l.out × (written l.out ++ lines (node_rows l.number (drop l.number l.parts)) ≡ written l.initial.out ++ lines (node_rows 0 l.parts))
