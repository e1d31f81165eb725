use Rattle.std.proofs.Common.{◌≡◌, ◌+◌, ◌++◌, length, drop}
use Rattle.elf_write.specs.Layout.{segments_bytes, segments_at, program_headers}
use Rattle.elf_write.proofs.headers.push_program_headers.Given as goal

abbrev pub invariant-loop-segment : goal.invariant-loop-segment
invariant-loop-segment l = record {
  headers : l.out.items ++ program_headers l.place (drop l.segment-index l.segments) ≡ l.initial.out.items ++ program_headers (segments_at l.segments) l.segments;
  bound : l.place + length (segments_bytes (drop l.segment-index l.segments)) ≡ segments_at l.segments + length (segments_bytes l.segments);
}
