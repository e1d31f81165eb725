use Rattle.std.proofs.Common.{◌≡◌, ◌+◌, length, drop}
use Rattle.elf_write.specs.Layout.{segments_bytes}
use Rattle.elf_write.proofs.places.segments_len.Given as goal

abbrev pub invariant-loop-segment : goal.invariant-loop-segment
invariant-loop-segment l = l.len + length (segments_bytes (drop l.segment-index l.segments)) ≡ length (segments_bytes l.segments)
