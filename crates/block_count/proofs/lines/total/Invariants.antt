use Rattle.std.proofs.Common.{◌≡◌, ◌+◌, ◌*◌, ◌^◌, ◌≤◌, drop, sum}
use Rattle.block_count.proofs.lines.total.Given as goal

-- what is counted, and the ticks that are left, make all the ticks
abbrev pub invariant-loop-count : goal.invariant-loop-count
invariant-loop-count l = record {
  all : l.total + sum (drop l.count-index l.ticks) ≡ sum l.ticks;
  bound : l.total ≤ l.count-index * 2 ^ 64;
}
