use Rattle.std.proofs.Common.{◌≡◌, ◌++◌, map, drop}
use Rattle.advice.specs.Advice.{hypothesis_of, hypotheses_of, names_behind}
use Rattle.advice.proofs.hypothesis.hypotheses_of.Given as goal

-- the hypotheses so far, and those that are left, are all
abbrev pub invariant-loop-verdict : goal.invariant-loop-verdict
invariant-loop-verdict l = l.hypotheses.items ++ map (hypothesis_of l.verdicts) (names_behind l.mentioned (drop l.verdict-index l.verdicts)) ≡ hypotheses_of l.verdicts
