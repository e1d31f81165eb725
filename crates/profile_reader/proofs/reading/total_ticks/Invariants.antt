use Rattle.std.proofs.Common.{◌≡◌, ◌+◌, ◌*◌, ◌≤◌, drop}
use Rattle.std.specs.Prelude.{sum_by}
use Rattle.profile_reader.proofs.reading.total_ticks.Given as goal

-- what is counted, and the ticks that are left, make all the ticks
abbrev pub invariant-loop-part : goal.invariant-loop-part
invariant-loop-part l = record {
  sum : l.total + sum_by (λ part. part.ticks) (drop l.part-index l.harts) ≡ sum_by (λ part. part.ticks) l.harts;
  small : l.total ≤ l.part-index * 18446744073709551615;
}
