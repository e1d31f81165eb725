use Rattle.std.proofs.Common.{◌≡◌, ◌++◌, drop}
use Rattle.report_view.specs.Harts.{hart_view_lines}
use Rattle.report_view.proofs.harts.add_harts.Given as goal

-- what is written, and the lines that are left, make all the lines
abbrev pub invariant-loop-number : goal.invariant-loop-number
invariant-loop-number l = l.out.items ++ hart_view_lines l.number (drop l.number l.parts) ≡ l.initial.out.items ++ hart_view_lines 0 l.parts
