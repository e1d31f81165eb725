-- The ELF file of an image: its parts, one after the other (System V ABI: ELF header, program header, sections).
use Rattle.std.specs.Prelude.{ℕ, ◌+◌, ◌-◌, ◌*◌, ◌<◌, ◌^◌, ◌&&◌, nat_le, nat_lt, if◌then◌else◌, List, [], ◌∷◌, ◌++◌, length, replicate}
use Rattle.std.specs.List.{flat_map}
use Rattle.elf_write.specs.Fields.{halves, words, doublewords, padded}
use Rattle.elf_write.specs.Symbols.{symbol_table, string_table, locals_of}
use Rattle.elf_write.specs.declared.places.Places.{Places}
use Rattle.elf_write.specs.declared.headers.Section.{Section}
use Rattle.pn_types.specs.declared.image.Image.{Image}
use Rattle.pn_types.specs.declared.image.Segment.{Segment}

-- ---- segments

-- the segments' bytes, each with zeros up to a multiple of 8
abbrev pub segments_bytes : List Segment → List ℕ
segments_bytes segments = flat_map (λ s. padded s.bytes) segments

-- the header of a segment whose bytes stand at a place (p_type and p_flags; p_offset, p_vaddr, p_paddr, p_filesz, p_memsz, p_align)
abbrev pub program_header : ℕ → Segment → List ℕ
program_header place s = words (1 ∷ 7 ∷ []) ++ doublewords (place ∷ s.at ∷ s.at ∷ length s.bytes ∷ s.size ∷ 1 ∷ [])

-- the headers of segments whose bytes stand from a place on
abbrev pub program_headers : ℕ → List Segment → List ℕ
program_headers place [] = []
program_headers place (s ∷ ss) = program_header place s ++ program_headers (place + length (padded s.bytes)) ss

-- ---- places

-- where the segments' bytes begin, after the header and the program headers
abbrev pub segments_at : List Segment → ℕ
segments_at segments = 64 + 56 * length segments

-- the place of an address, where it is in the bytes of a segment, and 0 elsewhere
abbrev pub place_from : ℕ → ℕ → List Segment → ℕ
place_from address place [] = 0
place_from address place (s ∷ ss) =
    if nat_le s.at address && nat_lt address (s.at + length s.bytes) then place + (address - s.at)
    else place_from address (place + length (padded s.bytes)) ss

abbrev pub symbols_at : Image → ℕ
symbols_at i = segments_at i.segments + length (segments_bytes i.segments)

abbrev pub strings_at : Image → ℕ
strings_at i = symbols_at i + length (symbol_table i.symbols)

abbrev pub sections_at : Image → ℕ
sections_at i = strings_at i + length (padded (string_table i.symbols))

-- where the parts stand
unfoldable pub places_of : Image → Places
places_of i = record {
  text = place_from i.text_at (segments_at i.segments) i.segments;
  symbols = symbols_at i;
  strings = strings_at i;
  sections = sections_at i;
}

-- ---- headers

-- e_ident: 7F 45 4C 46, ELFCLASS64, ELFDATA2LSB, EV_CURRENT
abbrev pub ident : List ℕ
ident = 0x7f ∷ 0x45 ∷ 0x4c ∷ 0x46 ∷ 2 ∷ 1 ∷ 1 ∷ replicate 9 0

-- e_type (ET_EXEC), e_machine (EM_RISCV); e_version; e_entry, e_phoff, e_shoff; e_flags; e_ehsize, e_phentsize, e_phnum,
-- e_shentsize, e_shnum, e_shstrndx
abbrev pub file_header : ℕ → ℕ → Places → List ℕ
file_header entry segments places =
    ident ++ halves (2 ∷ 243 ∷ []) ++ words (1 ∷ []) ++ doublewords (entry ∷ 64 ∷ places.sections ∷ []) ++ words (0 ∷ [])
    ++ halves (64 ∷ 56 ∷ segments ∷ 64 ∷ 4 ∷ 0 ∷ [])

-- sh_name, sh_type; sh_flags, sh_addr, sh_offset, sh_size; sh_link, sh_info; sh_addralign, sh_entsize
unfoldable pub section_header : Section → List ℕ
section_header s =
    words (0 ∷ s.kind ∷ []) ++ doublewords (s.flags ∷ s.address ∷ s.offset ∷ s.size ∷ []) ++ words (s.link ∷ s.info ∷ [])
    ++ doublewords (s.alignment ∷ s.entry_size ∷ [])

-- the null section
abbrev pub null_section : Section
null_section = record { kind = 0; flags = 0; address = 0; offset = 0; size = 0; link = 0; info = 0; alignment = 0; entry_size = 0 }

-- the text: SHT_PROGBITS, allocated and executable
abbrev pub text_section : Image → Places → Section
text_section i places = record {
  kind = 1;
  flags = 6;
  address = i.text_at;
  offset = places.text;
  size = i.text_len;
  link = 0;
  info = 0;
  alignment = 4;
  entry_size = 0;
}

-- the symbols: SHT_SYMTAB, linked with the strings, with the number of entries that aren't global
abbrev pub symbol_section : Image → Places → Section
symbol_section i places = record {
  kind = 2;
  flags = 0;
  address = 0;
  offset = places.symbols;
  size = length (symbol_table i.symbols);
  link = 3;
  info = 1 + length (locals_of i.symbols);
  alignment = 8;
  entry_size = 24;
}

-- the strings: SHT_STRTAB
abbrev pub string_section : Image → Places → Section
string_section i places = record {
  kind = 3;
  flags = 0;
  address = 0;
  offset = places.strings;
  size = length (string_table i.symbols);
  link = 0;
  info = 0;
  alignment = 1;
  entry_size = 0;
}

-- the null section, the text, the symbols and the strings
unfoldable pub section_headers : Image → Places → List ℕ
section_headers i places =
    section_header null_section ++ section_header (text_section i places) ++ section_header (symbol_section i places)
    ++ section_header (string_section i places)

-- ---- the file

-- The file of an image.
unfoldable pub elf_bytes : Image → List ℕ
elf_bytes i =
    file_header i.entry (length i.segments) (places_of i)
    ++ program_headers (segments_at i.segments) i.segments
    ++ segments_bytes i.segments
    ++ symbol_table i.symbols
    ++ padded (string_table i.symbols)
    ++ section_headers i (places_of i)

-- the places of all names fit their fields
abbrev pub CanWrite : Image → Type 0
CanWrite i = length (string_table i.symbols) < 2 ^ 32
