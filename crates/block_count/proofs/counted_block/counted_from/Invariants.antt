use Rattle.std.proofs.Common.{◌≡◌, ◌+◌, ◌*◌, ◌≤◌, ◌++◌, drop, length}
use Rattle.tramp_spec.specs.Banks.{first_slot}
use Rattle.block_count.specs.CountedBlocks.{counted_from}
use Rattle.block_count.proofs.counted_block.counted_from.Given as goal

-- the blocks so far, and those of the rest
abbrev pub invariant-loop-head : goal.invariant-loop-head
invariant-loop-head l = record {
  slots : l.slot ≤ 2 + l.head-index;
  low : l.at ≤ l.first + 48 * l.head-index;
  len : length l.blocks.items ≡ l.head-index;
  all : l.blocks.items ++ counted_from (record { at = l.text_at; words = l.words }) l.slot l.at (drop l.head-index l.heads) ≡ counted_from (record { at = l.text_at; words = l.words }) first_slot l.first l.heads;
}
