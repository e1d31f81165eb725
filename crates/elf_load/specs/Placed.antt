-- For proofs alone: what the checks leave true of segments.
use Rattle.std.specs.Prelude.{◌≡◌, ℕ, ◌≤◌, false}
use Rattle.elf_form.specs.Faults.{reaches_past}
use Rattle.elf_form.specs.Segments.{end_of}
use Rattle.elf_form.specs.declared.load.Load.{Load}
use Rattle.pn_types.specs.declared.limits.TheConstants.{SEGMENTS_FROM, SEGMENTS_TO}

-- the segment's file part lies in a file of `len` bytes and in its memory, which lies between 0x10000 and 0x60000000
pub record IsSegmentPlaced (len : ℕ) (l : Load) : Type 0 where
  pub filled : l.header.file_size ≤ l.header.memory_size
  pub within : reaches_past l.header.offset l.header.file_size len ≡ false
  pub low : SEGMENTS_FROM ≤ l.header.address
  pub high : end_of l ≤ SEGMENTS_TO
