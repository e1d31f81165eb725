use Rattle.std.proofs.Common.{◌≡◌, ◌++◌, flat_map}
use Rattle.std.specs.List.{zip}
use Rattle.block_count.specs.Texts.{block_line}
use Rattle.block_count.proofs.lines.add_blocks.Given as goal

-- what is written, and the lines that are left, make all the lines
abbrev pub invariant-loop-head : goal.invariant-loop-head
invariant-loop-head l =
    l.out.items ++ flat_map block_line (zip l.head-iterator.a.rest.now l.head-iterator.b.rest.now) ≡ l.initial.out.items ++ flat_map block_line (zip l.heads l.counts)
