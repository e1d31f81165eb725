use Rattle.std.proofs.Common.{◌≡◌, ◌++◌, drop}
use Rattle.elf_write.specs.Layout.{segments_bytes}
use Rattle.elf_write.proofs.writing.push_segments.Given as goal

abbrev pub invariant-loop-segment : goal.invariant-loop-segment
invariant-loop-segment l = l.out.items ++ segments_bytes (drop l.segment-index l.segments) ≡ l.initial.out.items ++ segments_bytes l.segments
