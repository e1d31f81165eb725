use Rattle.std.proofs.Common.{◌≡◌, ◌++◌, drop}
use Rattle.report_diff.specs.Matches.{matches_from}
use Rattle.report_diff.proofs.matches.matches_of.Given as goal

-- the matches so far, and those of the names that are left, are all
abbrev pub invariant-loop-place : goal.invariant-loop-place
invariant-loop-place l = l.found.items ++ matches_from l.names l.others l.place (drop l.place l.names) ≡ matches_from l.names l.others 0 l.names
