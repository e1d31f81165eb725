use Rattle.std.proofs.Common.{◌≡◌, drop}
use Rattle.std.specs.Cmp.Lexicographic.{pointwise}
use Rattle.instrument.specs.Opens.{is_open}
use Rattle.instrument.proofs.opens.are_opens.Given as goal

abbrev pub invariant-loop-place : goal.invariant-loop-place
invariant-loop-place l = pointwise is_open (drop l.place l.ones) (drop l.place l.others) ≡ pointwise is_open l.ones l.others
