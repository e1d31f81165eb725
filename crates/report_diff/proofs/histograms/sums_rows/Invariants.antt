use Rattle.std.proofs.Common.{◌≡◌, ◌++◌, drop}
use Rattle.report_diff.specs.Sums.{sums_rows}
use Rattle.report_diff.proofs.histograms.sums_rows.Given as goal

-- the rows so far, and those that are left, are all
abbrev pub invariant-loop-found : goal.invariant-loop-found
invariant-loop-found l = l.rows.items ++ sums_rows l.olds l.news (drop l.found-index l.matches) ≡ sums_rows l.olds l.news l.matches
