use Rattle.std.proofs.Common.{◌≡◌, drop}
use Rattle.std.specs.Cmp.Lexicographic.{pointwise}
use Rattle.instrument.specs.Needs.{is_var}
use Rattle.instrument.proofs.kit.are_vars.Given as goal

abbrev pub invariant-loop-place : goal.invariant-loop-place
invariant-loop-place l = pointwise is_var (drop l.place l.ones) (drop l.place l.others) ≡ pointwise is_var l.ones l.others
