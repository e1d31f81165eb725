-- A section of an ELF file by its name (System V ABI: section header, string table).
use Rattle.std.specs.Prelude.{ℕ, ◌||◌, nat_lt, if◌then◌else◌, Bool, Option, Some, None, List, length, find, slice_get, option_map, bytes_eq}
use Rattle.elf_form.specs.Fields.{field, part, table, header_of, section_header_of}
use Rattle.elf_form.specs.Headers.{has_short_tables}
use Rattle.elf_form.specs.Symbols.{section_bytes}
use Rattle.line_table.specs.declared.sections.NamedHeader.{NamedHeader}

-- section header at a place: sh_name, and the other fields
abbrev pub named_header_of : List ℕ → ℕ → NamedHeader
named_header_of b at = record { name = field 4 b at; header = section_header_of b at }

-- all section headers of a file
abbrev pub named_headers_of : List ℕ → List NamedHeader
named_headers_of b = table named_header_of 64 b (header_of b).section_header_count (header_of b).section_headers

-- the section names: the content of the section of index e_shstrndx
abbrev pub section_names : List ℕ → List NamedHeader → Option (List ℕ)
section_names b headers = option_map (λ s. section_bytes b s.header) (slice_get headers (field 2 b 62))

-- the section has this name, which ends with a zero byte, where the section names are these
abbrev pub is_named : List ℕ → List ℕ → NamedHeader → Bool
is_named names name s = bytes_eq (part names s.name (length name)) name

-- the content of the first section of a name, as far as the file has it
abbrev pub section_with : List ℕ → List NamedHeader → Option (List ℕ) → List ℕ → Option (List ℕ)
section_with b headers None name = None
section_with b headers (Some names) name = option_map (λ s. section_bytes b s.header) (find (is_named names name) headers)

-- the file has no section headers that can be read
abbrev pub has_no_headers : List ℕ → Bool
has_no_headers b = nat_lt (length b) 64 || has_short_tables (header_of b) (length b)

-- The content of the first section of a name, which ends with a zero byte.
unfoldable pub section_named : List ℕ → List ℕ → Option (List ℕ)
section_named b name =
    if has_no_headers b then None else section_with b (named_headers_of b) (section_names b (named_headers_of b)) name
