use Rattle.std.proofs.Common.{◌≡◌, ◌++◌, map}
use Rattle.std.specs.List.{zip}
use Rattle.block_count.specs.Texts.{part_of}
use Rattle.profile_text.proofs.run_lines.hart_parts.Given as goal

-- what is made, and what is left to make, are all
abbrev pub invariant-loop-ticks : goal.invariant-loop-ticks
invariant-loop-ticks l =
    l.parts.items ++ map part_of (zip l.ticks-iterator.a.rest.now l.ticks-iterator.b.rest.now) ≡ map part_of (zip l.counts.ticks l.counts.stops)
