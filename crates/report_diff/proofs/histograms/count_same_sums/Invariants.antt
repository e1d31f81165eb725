use Rattle.std.proofs.Common.{◌≡◌, ◌+◌, drop}
use Rattle.std.specs.List.{count_by}
use Rattle.report_diff.specs.Sums.{is_same_sum}
use Rattle.report_diff.proofs.histograms.count_same_sums.Given as goal

-- how many there are so far, and are left, are all
abbrev pub invariant-loop-found : goal.invariant-loop-found
invariant-loop-found l = l.count + count_by (is_same_sum l.olds l.news) (drop l.found-index l.matches) ≡ count_by (is_same_sum l.olds l.news) l.matches
