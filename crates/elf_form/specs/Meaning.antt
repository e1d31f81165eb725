-- What the bytes of an ELF file mean: its image, or its first fault.
use Rattle.std.specs.Prelude.{ℕ, ◌-◌, Option, Some, None, List, [], ◌∷◌, Result, Ok, Err, length, map}
use Rattle.elf_form.specs.Fields.{header_of, program_headers_of, section_headers_of}
use Rattle.elf_form.specs.Faults.{first_fault}
use Rattle.elf_form.specs.Headers.{header_fault}
use Rattle.elf_form.specs.Segments.{loads_from, segments_fault, segment_of, by_address}
use Rattle.elf_form.specs.Texts.{text_range, text_fault}
use Rattle.elf_form.specs.Symbols.{symbols_fault, symbols_of}
use Rattle.elf_form.specs.declared.fault.ElfFault.{ElfFault}
use Rattle.elf_form.specs.declared.section.SectionHeader.{SectionHeader}
use Rattle.elf_form.specs.declared.section.TextRange.{TextRange}
use Rattle.elf_form.specs.declared.load.Load.{Load}
use Rattle.pn_types.specs.declared.image.Image.{Image}
use Rattle.pn_types.specs.declared.image.Segment.{Segment}

-- what the tables of a file say
pub record Tables : Type 0 where
  pub entry : ℕ
  pub loads : List Load
  pub sections : List SectionHeader

abbrev pub tables_of : List ℕ → Tables
tables_of b = record {
  entry = (header_of b).entry;
  loads = loads_from 0 (program_headers_of b (header_of b));
  sections = section_headers_of b (header_of b);
}

-- the first fault of a file with these tables: of the header, the segments, the text or the symbols
abbrev pub fault_with : List ℕ → Tables → Option ElfFault
fault_with b t =
    first_fault (header_fault b
    ∷ segments_fault (length b) t.loads
    ∷ text_fault b t.loads t.sections t.entry
    ∷ symbols_fault b t.sections
    ∷ [])

-- where the text begins, and its length
abbrev pub start_of : Option TextRange → ℕ
start_of None = 0
start_of (Some r) = r.at

abbrev pub length_of : Option TextRange → ℕ
length_of None = 0
length_of (Some r) = r.end - r.at

-- the segments of a file by ascending address
unfoldable pub segments_of : List ℕ → List Load → List Segment
segments_of b loads = map (segment_of b) (by_address loads)

-- the image of a file with these tables
abbrev pub image_with : List ℕ → Tables → Image
image_with b t = record {
  segments = segments_of b t.loads;
  text_at = start_of (text_range t.sections);
  text_len = length_of (text_range t.sections);
  entry = t.entry;
  symbols = symbols_of b t.sections;
}

-- an image, unless there is a fault
abbrev pub unless_fault : Option ElfFault → Image → Result Image ElfFault
unless_fault None image = Ok image
unless_fault (Some fault) image = Err fault

-- what a file with these tables means
unfoldable pub meaning_with : List ℕ → Tables → Result Image ElfFault
meaning_with b t = unless_fault (fault_with b t) (image_with b t)

-- The image of a file, or its first fault.
unfoldable pub meaning_of : List ℕ → Result Image ElfFault
meaning_of b = meaning_with b (tables_of b)
