use Rattle.std.proofs.Common.{◌≡◌, ◌+◌, drop}
use Rattle.std.specs.Prelude.{sum_by}
use Rattle.report_diff.proofs.runs.all_ticks.Given as goal

-- what is counted, and the ticks that are left, make all the ticks
abbrev pub invariant-loop-part : goal.invariant-loop-part
invariant-loop-part l = l.total + sum_by (λ part. part.ticks) (drop l.part-index l.harts) ≡ sum_by (λ part. part.ticks) l.harts
