use Rattle.std.proofs.Common.{◌≡◌, ◌+◌, length, drop}
use Rattle.elf_write.specs.Layout.{segments_bytes, segments_at, place_from}
use Rattle.elf_write.proofs.places.place_of.Given as goal

abbrev pub invariant-loop-segment : goal.invariant-loop-segment
invariant-loop-segment l = record {
  place : place_from l.address l.place (drop l.segment-index l.segments) ≡ place_from l.address (segments_at l.segments) l.segments;
  bound : l.place + length (segments_bytes (drop l.segment-index l.segments)) ≡ segments_at l.segments + length (segments_bytes l.segments);
}
