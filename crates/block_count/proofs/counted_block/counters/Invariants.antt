use Rattle.std.proofs.Common.{◌≡◌, ◌≤◌, ◌++◌, drop, length, map}
use Rattle.block_count.specs.CountedBlocks.{counters_in}
use Rattle.block_count.proofs.counted_block.counters.Given as goal

-- the counters so far, and those of the rest
abbrev pub invariant-loop-block : goal.invariant-loop-block
invariant-loop-block l = record {
  few : length l.counters.items ≤ l.block-index;
  all : map (λ c. c.now) l.counters.items ++ counters_in (drop l.block-index l.blocks) ≡ counters_in l.blocks;
}
