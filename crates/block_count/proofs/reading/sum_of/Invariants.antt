use Rattle.std.proofs.Common.{◌≡◌, ◌+◌, ◌%◌, ◌^◌, drop, sum}
use Rattle.block_count.proofs.reading.sum_of.Given as goal

-- the sum so far, and that of the rest
abbrev pub invariant-loop-reading : goal.invariant-loop-reading
invariant-loop-reading l = (l.total + sum (drop l.reading-index l.readings)) % 2 ^ 64 ≡ sum l.readings % 2 ^ 64
