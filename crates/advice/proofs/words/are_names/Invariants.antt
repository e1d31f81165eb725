use Rattle.std.proofs.Common.{◌≡◌, length}
use Rattle.advice.specs.Words.{are_names}
use Rattle.advice.proofs.words.are_names.Given as goal

-- what is left decides
abbrev pub invariant-loop-name : goal.invariant-loop-name
invariant-loop-name l = are_names l.left l.names ≡ are_names l.fn.most l.fn.names

abbrev pub decreases-loop-name : goal.decreases-loop-name
decreases-loop-name l = length l.names
