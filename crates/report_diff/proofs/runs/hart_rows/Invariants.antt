use Rattle.std.proofs.Common.{◌≡◌, ◌++◌, drop}
use Rattle.report_diff.specs.Runs.{hart_ticks_row, harts_in_both}
use Rattle.report_diff.proofs.runs.hart_rows.Given as goal

-- the rows so far, and those of the harts that are left, are all
abbrev pub invariant-loop-number : goal.invariant-loop-number
invariant-loop-number l = l.rows.items ++ harts_in_both hart_ticks_row l.news l.number (drop l.number l.olds) ≡ harts_in_both hart_ticks_row l.news 0 l.olds
