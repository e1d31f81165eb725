use Rattle.std.proofs.Common.{◌≡◌, false, replicate}
use Rattle.mdl_check.proofs.ancestors.none_clear.Given as goal

abbrev pub invariant-loop-place : goal.invariant-loop-place
invariant-loop-place l = l.clear.items ≡ replicate l._place false
