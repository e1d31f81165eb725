use Rattle.std.proofs.Common.{◌≡◌, ◌++◌, drop}
use Rattle.report_diff.specs.Runs.{hart_end_line, harts_in_both}
use Rattle.report_diff.proofs.runs.add_hart_ends.Given as goal

-- what is written, and the lines of the harts that are left, make all the lines
abbrev pub invariant-loop-number : goal.invariant-loop-number
invariant-loop-number l = l.out.items ++ harts_in_both hart_end_line l.news l.number (drop l.number l.olds) ≡ l.initial.out.items ++ harts_in_both hart_end_line l.news 0 l.olds
