use Rattle.std.proofs.Common.{◌≡◌, ◌++◌, drop}
use Rattle.report_diff.specs.Verdicts.{state_changes}
use Rattle.report_diff.proofs.nodes.state_changes.Given as goal

-- the lines so far, and those that are left, are all
abbrev pub invariant-loop-found : goal.invariant-loop-found
invariant-loop-found l = l.lines.items ++ state_changes l.olds l.news (drop l.found-index l.matches) ≡ state_changes l.olds l.news l.matches
