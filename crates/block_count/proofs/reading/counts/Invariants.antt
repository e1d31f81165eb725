use Rattle.std.proofs.Common.{◌≡◌, ◌++◌, drop, length}
use Rattle.block_count.specs.Readings.{counts_read}
use Rattle.block_count.proofs.reading.counts.Given as goal

-- the counts so far, and those of the rest
abbrev pub invariant-loop-block : goal.invariant-loop-block
invariant-loop-block l = record {
  places : length l.sample.readings ≡ length l.machine.core.harts;
  all : l.counts.items ++ counts_read l.machine.core (drop l.block-index l.blocks) ≡ counts_read l.machine.core l.blocks;
}
