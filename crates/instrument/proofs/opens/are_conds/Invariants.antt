use Rattle.std.proofs.Common.{◌≡◌, drop}
use Rattle.std.specs.Cmp.Lexicographic.{pointwise}
use Rattle.instrument.specs.Opens.{is_cond}
use Rattle.instrument.proofs.opens.are_conds.Given as goal

abbrev pub invariant-loop-place : goal.invariant-loop-place
invariant-loop-place l = pointwise is_cond (drop l.place l.ones) (drop l.place l.others) ≡ pointwise is_cond l.ones l.others
