use Rattle.std.proofs.Common.{◌≡◌, drop}
use Rattle.std.specs.Cmp.Lexicographic.{pointwise}
use Rattle.instrument.specs.Opens.{is_stmt}
use Rattle.instrument.proofs.opens.are_stmts.Given as goal

abbrev pub invariant-loop-place : goal.invariant-loop-place
invariant-loop-place l = pointwise is_stmt (drop l.place l.ones) (drop l.place l.others) ≡ pointwise is_stmt l.ones l.others
