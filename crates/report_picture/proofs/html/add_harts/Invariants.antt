use Rattle.std.proofs.Common.{◌≡◌, ◌++◌, drop}
use Rattle.report_picture.specs.Html.{hart_table_rows}
use Rattle.report_picture.proofs.html.add_harts.Given as goal

-- what is written, and the rows that are left, make all
abbrev pub invariant-loop-number : goal.invariant-loop-number
invariant-loop-number l = l.out.items ++ hart_table_rows l.number (drop l.number l.parts) ≡ l.initial.out.items ++ hart_table_rows 0 l.parts
