use Rattle.std.proofs.Common.{◌≡◌, ◌-◌, ◌++◌, drop}
use Rattle.rv_mem.specs.Regions.{parts_of}
use Rattle.rv_mem.specs.Start.{segment_parts, stack_parts, start_parts}
use Rattle.rv_mem.proofs.start.with_lengths.Given as goal

abbrev pub invariant-loop-segment : goal.invariant-loop-segment
invariant-loop-segment l = parts_of l.regions.items ++ segment_parts (drop l.segment-index l.segments) ≡ segment_parts l.segments

abbrev pub invariant-loop-hart : goal.invariant-loop-hart
invariant-loop-hart l = parts_of l.regions.items ++ stack_parts (l.harts - l.hart) l.hart ≡ start_parts l.image l.harts
