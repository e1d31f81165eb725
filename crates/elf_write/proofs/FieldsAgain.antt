-- The fields of what is written, read again.
use Rattle.std.proofs.Common.{◌≡◌, ℕ, ◌+◌, ◌<◌, ◌^◌, List, [], ◌∷◌, ◌++◌, length, drop, refl, sym, ap, ◌∙◌, arith}
use Rattle.std.proofs.lemmas.List.{drop-drop}
use Rattle.byteorder.specs.Endian.{little_number}
use Rattle.byteorder.specs.Numbers.{little_number-reads_back}
use Rattle.elf_form.specs.Fields.{field, header_of, program_header_of, section_header_of, symbol_entry_of}
use Rattle.elf_form.specs.declared.header.Header.{Header}
use Rattle.elf_form.specs.declared.segment.ProgramHeader.{ProgramHeader}
use Rattle.elf_form.specs.declared.section.SectionHeader.{SectionHeader}
use Rattle.elf_form.specs.declared.symbol.SymbolEntry.{SymbolEntry}
use Rattle.elf_write.specs.Fields.{words, halves, doublewords}
use Rattle.elf_write.specs.Symbols.{entry_bytes}
use Rattle.elf_write.specs.Layout.{file_header, program_header, section_header}
use Rattle.elf_write.specs.declared.places.Places.{Places}
use Rattle.elf_write.specs.declared.headers.Section.{Section}
use Rattle.elf_write.specs.declared.symbols.Entry.{Entry}
use Rattle.pn_types.specs.declared.image.Segment.{Segment}

-- a field further on is a field of the bytes from a place on
field-drop : (n : ℕ) (b : List ℕ) (at k : ℕ) → field n b (at + k) ≡ field n (drop at b) k
unfolding field
field-drop n b at k = ap (λ r. little_number n r) (sym (drop-drop k at b))

abbrev pub program_read : ℕ → Segment → ProgramHeader
program_read place s = record { kind = 1; offset = place; address = s.at; file_size = length s.bytes; memory_size = s.size }

-- a program header at the front of bytes
pub program_at_front : (place : ℕ) (s : Segment) (rest : List ℕ) → place < 2 ^ 64 → s.at < 2 ^ 64 → length s.bytes < 2 ^ 64 → s.size < 2 ^ 64 → program_header_of (program_header place s ++ rest) 0 ≡ program_read place s
unfolding field words doublewords
program_at_front place s rest p a l z =
    let b = program_header place s ++ rest in
    let is_kind : field 4 b 0 ≡ 1 = little_number-reads_back 4 1 (words (7 ∷ []) ++ doublewords (place ∷ s.at ∷ s.at ∷ length s.bytes ∷ s.size ∷ 1 ∷ []) ++ rest) (omega arith) in
    let is_offset : field 8 b 8 ≡ place = little_number-reads_back 8 place (doublewords (s.at ∷ s.at ∷ length s.bytes ∷ s.size ∷ 1 ∷ []) ++ rest) p in
    let is_address : field 8 b 16 ≡ s.at = little_number-reads_back 8 s.at (doublewords (s.at ∷ length s.bytes ∷ s.size ∷ 1 ∷ []) ++ rest) a in
    let is_file_size : field 8 b 32 ≡ length s.bytes = little_number-reads_back 8 (length s.bytes) (doublewords (s.size ∷ 1 ∷ []) ++ rest) l in
    let is_memory_size : field 8 b 40 ≡ s.size = little_number-reads_back 8 s.size (doublewords (1 ∷ []) ++ rest) z in
    ap (λ n. record { kind = n; offset = field 8 b 8; address = field 8 b 16; file_size = field 8 b 32; memory_size = field 8 b 40 }) is_kind
    ∙ ap (λ n. record { kind = 1; offset = n; address = field 8 b 16; file_size = field 8 b 32; memory_size = field 8 b 40 }) is_offset
    ∙ ap (λ n. record { kind = 1; offset = place; address = n; file_size = field 8 b 32; memory_size = field 8 b 40 }) is_address
    ∙ ap (λ n. record { kind = 1; offset = place; address = s.at; file_size = n; memory_size = field 8 b 40 }) is_file_size
    ∙ ap (λ n. record { kind = 1; offset = place; address = s.at; file_size = length s.bytes; memory_size = n }) is_memory_size

abbrev pub section_read : Section → SectionHeader
section_read s = record { kind = s.kind; flags = s.flags; address = s.address; offset = s.offset; size = s.size; link = s.link; entry_size = s.entry_size }

-- the numbers of a section header fit their fields
pub record Fits (s : Section) : Type 0 where
  pub kind : s.kind < 2 ^ 32
  pub flags : s.flags < 2 ^ 64
  pub address : s.address < 2 ^ 64
  pub offset : s.offset < 2 ^ 64
  pub size : s.size < 2 ^ 64
  pub link : s.link < 2 ^ 32
  pub entry_size : s.entry_size < 2 ^ 64

-- a section header at the front of bytes
pub section_at_front : (s : Section) (rest : List ℕ) → Fits s → section_header_of (section_header s ++ rest) 0 ≡ section_read s
unfolding field words doublewords section_header
section_at_front s rest h =
    let b = section_header s ++ rest in
    let is_kind : field 4 b 4 ≡ s.kind = little_number-reads_back 4 s.kind (doublewords (s.flags ∷ s.address ∷ s.offset ∷ s.size ∷ []) ++ words (s.link ∷ s.info ∷ []) ++ doublewords (s.alignment ∷ s.entry_size ∷ []) ++ rest) h.kind in
    let is_flags : field 8 b 8 ≡ s.flags = little_number-reads_back 8 s.flags (doublewords (s.address ∷ s.offset ∷ s.size ∷ []) ++ words (s.link ∷ s.info ∷ []) ++ doublewords (s.alignment ∷ s.entry_size ∷ []) ++ rest) h.flags in
    let is_address : field 8 b 16 ≡ s.address = little_number-reads_back 8 s.address (doublewords (s.offset ∷ s.size ∷ []) ++ words (s.link ∷ s.info ∷ []) ++ doublewords (s.alignment ∷ s.entry_size ∷ []) ++ rest) h.address in
    let is_offset : field 8 b 24 ≡ s.offset = little_number-reads_back 8 s.offset (doublewords (s.size ∷ []) ++ words (s.link ∷ s.info ∷ []) ++ doublewords (s.alignment ∷ s.entry_size ∷ []) ++ rest) h.offset in
    let is_size : field 8 b 32 ≡ s.size = little_number-reads_back 8 s.size (words (s.link ∷ s.info ∷ []) ++ doublewords (s.alignment ∷ s.entry_size ∷ []) ++ rest) h.size in
    let is_link : field 4 b 40 ≡ s.link = little_number-reads_back 4 s.link (words (s.info ∷ []) ++ doublewords (s.alignment ∷ s.entry_size ∷ []) ++ rest) h.link in
    let is_entry_size : field 8 b 56 ≡ s.entry_size = little_number-reads_back 8 s.entry_size (rest) h.entry_size in
    ap (λ n. record { kind = n; flags = field 8 b 8; address = field 8 b 16; offset = field 8 b 24; size = field 8 b 32; link = field 4 b 40; entry_size = field 8 b 56 }) is_kind
    ∙ ap (λ n. record { kind = s.kind; flags = n; address = field 8 b 16; offset = field 8 b 24; size = field 8 b 32; link = field 4 b 40; entry_size = field 8 b 56 }) is_flags
    ∙ ap (λ n. record { kind = s.kind; flags = s.flags; address = n; offset = field 8 b 24; size = field 8 b 32; link = field 4 b 40; entry_size = field 8 b 56 }) is_address
    ∙ ap (λ n. record { kind = s.kind; flags = s.flags; address = s.address; offset = n; size = field 8 b 32; link = field 4 b 40; entry_size = field 8 b 56 }) is_offset
    ∙ ap (λ n. record { kind = s.kind; flags = s.flags; address = s.address; offset = s.offset; size = n; link = field 4 b 40; entry_size = field 8 b 56 }) is_size
    ∙ ap (λ n. record { kind = s.kind; flags = s.flags; address = s.address; offset = s.offset; size = s.size; link = n; entry_size = field 8 b 56 }) is_link
    ∙ ap (λ n. record { kind = s.kind; flags = s.flags; address = s.address; offset = s.offset; size = s.size; link = s.link; entry_size = n }) is_entry_size

abbrev pub entry_read : ℕ → Entry → SymbolEntry
entry_read place e = record { name = place; info = e.info; section = e.section; value = e.value; size = e.size }

-- the numbers of an entry fit their fields
pub record EntryFits (place : ℕ) (e : Entry) : Type 0 where
  pub name : place < 2 ^ 32
  pub section : e.section < 2 ^ 16
  pub value : e.value < 2 ^ 64
  pub size : e.size < 2 ^ 64

-- an entry of the symbol table at the front of bytes
pub entry_at_front : (place : ℕ) (e : Entry) (rest : List ℕ) → EntryFits place e → symbol_entry_of (entry_bytes place e ++ rest) 0 ≡ entry_read place e
unfolding field words halves doublewords
entry_at_front place e rest h =
    let b = entry_bytes place e ++ rest in
    let is_name : field 4 b 0 ≡ place = little_number-reads_back 4 place ((e.info ∷ 0 ∷ []) ++ halves (e.section ∷ []) ++ doublewords (e.value ∷ e.size ∷ []) ++ rest) h.name in
    let is_info : field 1 b 4 ≡ e.info = omega arith in
    let is_section : field 2 b 6 ≡ e.section = little_number-reads_back 2 e.section (doublewords (e.value ∷ e.size ∷ []) ++ rest) h.section in
    let is_value : field 8 b 8 ≡ e.value = little_number-reads_back 8 e.value (doublewords (e.size ∷ []) ++ rest) h.value in
    let is_size : field 8 b 16 ≡ e.size = little_number-reads_back 8 e.size (rest) h.size in
    ap (λ n. record { name = n; info = field 1 b 4; section = field 2 b 6; value = field 8 b 8; size = field 8 b 16 }) is_name
    ∙ ap (λ n. record { name = place; info = n; section = field 2 b 6; value = field 8 b 8; size = field 8 b 16 }) is_info
    ∙ ap (λ n. record { name = place; info = e.info; section = n; value = field 8 b 8; size = field 8 b 16 }) is_section
    ∙ ap (λ n. record { name = place; info = e.info; section = e.section; value = n; size = field 8 b 16 }) is_value
    ∙ ap (λ n. record { name = place; info = e.info; section = e.section; value = e.value; size = n }) is_size

abbrev pub header_read : ℕ → ℕ → Places → Header
header_read entry segments places = record {
  class = 2;
  data_encoding = 1;
  kind = 2;
  machine = 243;
  entry = entry;
  program_headers = 64;
  section_headers = places.sections;
  flags = 0;
  program_header_size = 56;
  program_header_count = segments;
  section_header_size = 64;
  section_header_count = 4;
}

-- the file header at the front of bytes
pub header_at_front : (entry segments : ℕ) (places : Places) (rest : List ℕ) → entry < 2 ^ 64 → segments < 2 ^ 16 → places.sections < 2 ^ 64 → header_of (file_header entry segments places ++ rest) ≡ header_read entry segments places
unfolding field words halves doublewords
header_at_front entry segments places rest e s p =
    let b = file_header entry segments places ++ rest in
    let is_class : field 1 b 4 ≡ 2 = omega arith in
    let is_data_encoding : field 1 b 5 ≡ 1 = omega arith in
    let is_kind : field 2 b 16 ≡ 2 = little_number-reads_back 2 2 (halves (243 ∷ []) ++ words (1 ∷ []) ++ doublewords (entry ∷ 64 ∷ places.sections ∷ []) ++ words (0 ∷ []) ++ halves (64 ∷ 56 ∷ segments ∷ 64 ∷ 4 ∷ 0 ∷ []) ++ rest) (omega arith) in
    let is_machine : field 2 b 18 ≡ 243 = little_number-reads_back 2 243 (words (1 ∷ []) ++ doublewords (entry ∷ 64 ∷ places.sections ∷ []) ++ words (0 ∷ []) ++ halves (64 ∷ 56 ∷ segments ∷ 64 ∷ 4 ∷ 0 ∷ []) ++ rest) (omega arith) in
    let is_entry : field 8 b 24 ≡ entry = little_number-reads_back 8 entry (doublewords (64 ∷ places.sections ∷ []) ++ words (0 ∷ []) ++ halves (64 ∷ 56 ∷ segments ∷ 64 ∷ 4 ∷ 0 ∷ []) ++ rest) e in
    let is_program_headers : field 8 b 32 ≡ 64 = little_number-reads_back 8 64 (doublewords (places.sections ∷ []) ++ words (0 ∷ []) ++ halves (64 ∷ 56 ∷ segments ∷ 64 ∷ 4 ∷ 0 ∷ []) ++ rest) (omega arith) in
    let is_section_headers : field 8 b 40 ≡ places.sections = little_number-reads_back 8 places.sections (words (0 ∷ []) ++ halves (64 ∷ 56 ∷ segments ∷ 64 ∷ 4 ∷ 0 ∷ []) ++ rest) p in
    let is_flags : field 4 b 48 ≡ 0 = little_number-reads_back 4 0 (halves (64 ∷ 56 ∷ segments ∷ 64 ∷ 4 ∷ 0 ∷ []) ++ rest) (omega arith) in
    let is_program_header_size : field 2 b 54 ≡ 56 = little_number-reads_back 2 56 (halves (segments ∷ 64 ∷ 4 ∷ 0 ∷ []) ++ rest) (omega arith) in
    let is_program_header_count : field 2 b 56 ≡ segments = little_number-reads_back 2 segments (halves (64 ∷ 4 ∷ 0 ∷ []) ++ rest) s in
    let is_section_header_size : field 2 b 58 ≡ 64 = little_number-reads_back 2 64 (halves (4 ∷ 0 ∷ []) ++ rest) (omega arith) in
    let is_section_header_count : field 2 b 60 ≡ 4 = little_number-reads_back 2 4 (halves (0 ∷ []) ++ rest) (omega arith) in
    ap (λ n. record { class = n; data_encoding = field 1 b 5; kind = field 2 b 16; machine = field 2 b 18; entry = field 8 b 24; program_headers = field 8 b 32; section_headers = field 8 b 40; flags = field 4 b 48; program_header_size = field 2 b 54; program_header_count = field 2 b 56; section_header_size = field 2 b 58; section_header_count = field 2 b 60 }) is_class
    ∙ ap (λ n. record { class = 2; data_encoding = n; kind = field 2 b 16; machine = field 2 b 18; entry = field 8 b 24; program_headers = field 8 b 32; section_headers = field 8 b 40; flags = field 4 b 48; program_header_size = field 2 b 54; program_header_count = field 2 b 56; section_header_size = field 2 b 58; section_header_count = field 2 b 60 }) is_data_encoding
    ∙ ap (λ n. record { class = 2; data_encoding = 1; kind = n; machine = field 2 b 18; entry = field 8 b 24; program_headers = field 8 b 32; section_headers = field 8 b 40; flags = field 4 b 48; program_header_size = field 2 b 54; program_header_count = field 2 b 56; section_header_size = field 2 b 58; section_header_count = field 2 b 60 }) is_kind
    ∙ ap (λ n. record { class = 2; data_encoding = 1; kind = 2; machine = n; entry = field 8 b 24; program_headers = field 8 b 32; section_headers = field 8 b 40; flags = field 4 b 48; program_header_size = field 2 b 54; program_header_count = field 2 b 56; section_header_size = field 2 b 58; section_header_count = field 2 b 60 }) is_machine
    ∙ ap (λ n. record { class = 2; data_encoding = 1; kind = 2; machine = 243; entry = n; program_headers = field 8 b 32; section_headers = field 8 b 40; flags = field 4 b 48; program_header_size = field 2 b 54; program_header_count = field 2 b 56; section_header_size = field 2 b 58; section_header_count = field 2 b 60 }) is_entry
    ∙ ap (λ n. record { class = 2; data_encoding = 1; kind = 2; machine = 243; entry = entry; program_headers = n; section_headers = field 8 b 40; flags = field 4 b 48; program_header_size = field 2 b 54; program_header_count = field 2 b 56; section_header_size = field 2 b 58; section_header_count = field 2 b 60 }) is_program_headers
    ∙ ap (λ n. record { class = 2; data_encoding = 1; kind = 2; machine = 243; entry = entry; program_headers = 64; section_headers = n; flags = field 4 b 48; program_header_size = field 2 b 54; program_header_count = field 2 b 56; section_header_size = field 2 b 58; section_header_count = field 2 b 60 }) is_section_headers
    ∙ ap (λ n. record { class = 2; data_encoding = 1; kind = 2; machine = 243; entry = entry; program_headers = 64; section_headers = places.sections; flags = n; program_header_size = field 2 b 54; program_header_count = field 2 b 56; section_header_size = field 2 b 58; section_header_count = field 2 b 60 }) is_flags
    ∙ ap (λ n. record { class = 2; data_encoding = 1; kind = 2; machine = 243; entry = entry; program_headers = 64; section_headers = places.sections; flags = 0; program_header_size = n; program_header_count = field 2 b 56; section_header_size = field 2 b 58; section_header_count = field 2 b 60 }) is_program_header_size
    ∙ ap (λ n. record { class = 2; data_encoding = 1; kind = 2; machine = 243; entry = entry; program_headers = 64; section_headers = places.sections; flags = 0; program_header_size = 56; program_header_count = n; section_header_size = field 2 b 58; section_header_count = field 2 b 60 }) is_program_header_count
    ∙ ap (λ n. record { class = 2; data_encoding = 1; kind = 2; machine = 243; entry = entry; program_headers = 64; section_headers = places.sections; flags = 0; program_header_size = 56; program_header_count = segments; section_header_size = n; section_header_count = field 2 b 60 }) is_section_header_size
    ∙ ap (λ n. record { class = 2; data_encoding = 1; kind = 2; machine = 243; entry = entry; program_headers = 64; section_headers = places.sections; flags = 0; program_header_size = 56; program_header_count = segments; section_header_size = 64; section_header_count = n }) is_section_header_count

-- what is read at a place is read at the front of the bytes from there on
front : (b : List ℕ) (at : ℕ) → field 4 b at ≡ field 4 (drop at b) 0
front b at = let e : at ≡ at + 0 = omega arith in ap (λ k. field 4 b k) e ∙ field-drop 4 b at 0

pub program_from : (b : List ℕ) (at : ℕ) → program_header_of b at ≡ program_header_of (drop at b) 0
program_from b at = rw (front b at, field-drop 8 b at 8, field-drop 8 b at 16, field-drop 8 b at 32, field-drop 8 b at 40) refl

pub section_from : (b : List ℕ) (at : ℕ) → section_header_of b at ≡ section_header_of (drop at b) 0
section_from b at = rw (field-drop 4 b at 4, field-drop 8 b at 8, field-drop 8 b at 16, field-drop 8 b at 24, field-drop 8 b at 32, field-drop 4 b at 40, field-drop 8 b at 56) refl

pub entry_from : (b : List ℕ) (at : ℕ) → symbol_entry_of b at ≡ symbol_entry_of (drop at b) 0
entry_from b at = rw (front b at, field-drop 1 b at 4, field-drop 2 b at 6, field-drop 8 b at 8, field-drop 8 b at 16) refl
