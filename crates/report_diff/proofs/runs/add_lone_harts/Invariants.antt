use Rattle.std.proofs.Common.{◌≡◌, ◌++◌, drop}
use Rattle.report_diff.specs.Runs.{lone_harts}
use Rattle.report_diff.proofs.runs.add_lone_harts.Given as goal

-- what is written, and the lines of the harts that are left, make all the lines
abbrev pub invariant-loop-number : goal.invariant-loop-number
invariant-loop-number l = l.out.items ++ lone_harts l.report l.others l.number (drop l.number l.harts) ≡ l.initial.out.items ++ lone_harts l.report l.others 0 l.harts
