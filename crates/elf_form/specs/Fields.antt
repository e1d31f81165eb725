-- Where the System V ABI places the fields of an ELF file of 64 bits. All are little-endian. A field past the end reads
-- as 0: the checks refuse such a file before they ask for the field.
use Rattle.std.specs.Prelude.{ℕ, zero, suc, ◌+◌, List, [], ◌∷◌, drop, take}
use Rattle.byteorder.specs.Endian.{little_number}
use Rattle.elf_form.specs.declared.header.Header.{Header}
use Rattle.elf_form.specs.declared.segment.ProgramHeader.{ProgramHeader}
use Rattle.elf_form.specs.declared.section.SectionHeader.{SectionHeader}
use Rattle.elf_form.specs.declared.symbol.SymbolEntry.{SymbolEntry}

-- the number in n bytes of a file from a place on
unfoldable pub field : ℕ → List ℕ → ℕ → ℕ
field n bytes at = little_number n (drop at bytes)

-- `size` bytes of a file from a place on
abbrev pub part : List ℕ → ℕ → ℕ → List ℕ
part bytes at size = take size (drop at bytes)

-- the n entries of a table from a place on, each of `size` bytes
abbrev pub table : {A : Type 0} → (List ℕ → ℕ → A) → ℕ → List ℕ → ℕ → ℕ → List A
table read size bytes zero at = []
table read size bytes (suc n) at = read bytes at ∷ table read size bytes n (at + size)

-- ELF header: e_ident, e_type, e_machine, e_entry, e_phoff, e_shoff, e_flags, and the sizes and numbers of entries
abbrev pub header_of : List ℕ → Header
header_of b = record {
  class = field 1 b 4;
  data_encoding = field 1 b 5;
  kind = field 2 b 16;
  machine = field 2 b 18;
  entry = field 8 b 24;
  program_headers = field 8 b 32;
  section_headers = field 8 b 40;
  flags = field 4 b 48;
  program_header_size = field 2 b 54;
  program_header_count = field 2 b 56;
  section_header_size = field 2 b 58;
  section_header_count = field 2 b 60;
}

-- program header at a place: p_type, p_offset, p_vaddr, p_filesz, p_memsz
abbrev pub program_header_of : List ℕ → ℕ → ProgramHeader
program_header_of b at = record {
  kind = field 4 b at;
  offset = field 8 b (at + 8);
  address = field 8 b (at + 16);
  file_size = field 8 b (at + 32);
  memory_size = field 8 b (at + 40);
}

-- section header at a place: sh_type, sh_flags, sh_addr, sh_offset, sh_size, sh_link, sh_entsize
abbrev pub section_header_of : List ℕ → ℕ → SectionHeader
section_header_of b at = record {
  kind = field 4 b (at + 4);
  flags = field 8 b (at + 8);
  address = field 8 b (at + 16);
  offset = field 8 b (at + 24);
  size = field 8 b (at + 32);
  link = field 4 b (at + 40);
  entry_size = field 8 b (at + 56);
}

-- symbol table entry at a place: st_name, st_info, st_shndx, st_value, st_size
abbrev pub symbol_entry_of : List ℕ → ℕ → SymbolEntry
symbol_entry_of b at = record {
  name = field 4 b at;
  info = field 1 b (at + 4);
  section = field 2 b (at + 6);
  value = field 8 b (at + 8);
  size = field 8 b (at + 16);
}

-- all program headers, and all section headers
abbrev pub program_headers_of : List ℕ → Header → List ProgramHeader
program_headers_of b h = table program_header_of 56 b h.program_header_count h.program_headers

abbrev pub section_headers_of : List ℕ → Header → List SectionHeader
section_headers_of b h = table section_header_of 64 b h.section_header_count h.section_headers
