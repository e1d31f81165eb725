-- The segments to be loaded, the checks on them in their order, and what they are in memory (System V ABI: program
-- header, PT_LOAD).
use Rattle.std.specs.Prelude.{ℕ, ◌+◌, ◌==◌, ◌&&◌, ◌||◌, min, max, nat_lt, nat_le, if◌then◌else◌, Bool, Option, Some, None, List, [], ◌∷◌, fold, sum_by}
use Rattle.elf_form.specs.Fields.{part}
use Rattle.elf_form.specs.Faults.{fault_where, first_fault, reaches_past}
use Rattle.elf_form.specs.declared.fault.ElfFault.{ElfFault}
use Rattle.elf_form.specs.declared.fault.ElfFault.TheVariants.{Short, BadSegment, LowSegment, HighSegment, Overlap, TooBig}
use Rattle.elf_form.specs.declared.segment.ProgramHeader.{ProgramHeader}
use Rattle.elf_form.specs.declared.load.Load.{Load}
use Rattle.elf_form.specs.declared.section.TextRange.{TextRange}
use Rattle.pn_types.specs.declared.image.Segment.{Segment}
use Rattle.pn_types.specs.declared.limits.TheConstants.{MAX_SEGMENTS, SEGMENTS_FROM, SEGMENTS_TO, MAX_IMAGE_SIZE}

-- a program header of type PT_LOAD (1) with p_memsz above 0
abbrev pub is_load : ProgramHeader → Bool
is_load p = (p.kind == 1) && nat_lt 0 p.memory_size

-- the segments to be loaded, in table order, of headers that stand in the table from an index on
abbrev pub loads_from : ℕ → List ProgramHeader → List Load
loads_from index [] = []
loads_from index (p ∷ ps) =
    if is_load p then record { index = index; header = p } ∷ loads_from (index + 1) ps else loads_from (index + 1) ps

-- the address after the segment's memory
abbrev pub end_of : Load → ℕ
end_of l = l.header.address + l.header.memory_size

-- the first fault of a segment, in a file of `len` bytes, where `place` segments are loaded before it
abbrev pub load_fault : ℕ → ℕ → Load → Option ElfFault
load_fault len place l =
    first_fault (fault_where (nat_lt l.header.memory_size l.header.file_size || nat_le MAX_SEGMENTS place) (BadSegment l.index)
    ∷ fault_where (reaches_past l.header.offset l.header.file_size len) (Short len)
    ∷ fault_where (nat_lt l.header.address SEGMENTS_FROM) (LowSegment l.header.address)
    ∷ fault_where (nat_lt SEGMENTS_TO (end_of l)) (HighSegment l.header.address)
    ∷ [])

-- the faults of segments, where `place` others come before the first
abbrev pub load_faults : ℕ → ℕ → List Load → List (Option ElfFault)
load_faults len place [] = []
load_faults len place (l ∷ ls) = load_fault len place l ∷ load_faults len (place + 1) ls

-- the lowest address that two segments have
abbrev pub shared : Load → Load → Option ℕ
shared l m =
    if nat_lt (max l.header.address m.header.address) (min (end_of l) (end_of m))
    then Some (max l.header.address m.header.address)
    else None

-- the lower of two addresses, as far as there are any
abbrev pub lower : Option ℕ → Option ℕ → Option ℕ
lower None b = b
lower (Some a) None = Some a
lower (Some a) (Some b) = Some (min a b)

-- the lowest address that a segment shares with one of the others
abbrev pub shared_with : Load → List Load → Option ℕ
shared_with l [] = None
shared_with l (m ∷ ms) = lower (shared l m) (shared_with l ms)

-- the lowest address that is in two segments
abbrev pub lowest_shared : List Load → Option ℕ
lowest_shared [] = None
lowest_shared (l ∷ ls) = lower (shared_with l ls) (lowest_shared ls)

abbrev pub overlap_fault : Option ℕ → Option ElfFault
overlap_fault None = None
overlap_fault (Some a) = Some (Overlap a)

-- the bytes of all segments' memory together
abbrev pub total_size : List Load → ℕ
total_size loads = sum_by (λ l. l.header.memory_size) loads

-- the first fault of the segments in a file of `len` bytes
unfoldable pub segments_fault : ℕ → List Load → Option ElfFault
segments_fault len loads =
    first_fault (first_fault (load_faults len 0 loads)
    ∷ overlap_fault (lowest_shared loads)
    ∷ fault_where (nat_lt MAX_IMAGE_SIZE (total_size loads)) (TooBig (total_size loads))
    ∷ [])

-- a range lies in the file part of a segment
abbrev pub is_around : Load → TextRange → Bool
is_around l r = nat_le l.header.address r.at && nat_le r.end (l.header.address + l.header.file_size)

-- ---- the memory of the image

-- a segment's memory: its file part, and zeros after it
abbrev pub segment_of : List ℕ → Load → Segment
segment_of b l = record { at = l.header.address; bytes = part b l.header.offset l.header.file_size; size = l.header.memory_size }

-- a segment put among others that stand by ascending address
abbrev pub with_load : List Load → Load → List Load
with_load [] l = l ∷ []
with_load (m ∷ ms) l = if nat_lt l.header.address m.header.address then l ∷ m ∷ ms else m ∷ with_load ms l

-- segments by ascending address
abbrev pub by_address : List Load → List Load
by_address loads = fold with_load [] loads
