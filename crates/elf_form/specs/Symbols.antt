-- The symbols, and the checks on their tables in their order (System V ABI: symbol table, string table).
use Rattle.std.specs.Prelude.{ℕ, ◌/◌, ◌%◌, ◌==◌, ◌&&◌, ◌||◌, not, if◌then◌else◌, Bool, Option, Some, None, List, [], ◌∷◌, ◌++◌, length, drop, filter, find, slice_get, take_while, option_map, option_to_list, bytes_eq}
use Rattle.std.specs.List.{list_any, list_all}
use Rattle.elf_form.specs.Fields.{part, table, symbol_entry_of}
use Rattle.elf_form.specs.Faults.{fault_where, first_fault, reaches_past}
use Rattle.elf_form.specs.declared.fault.ElfFault.{ElfFault}
use Rattle.elf_form.specs.declared.fault.ElfFault.TheVariants.{Short, BadSymbols}
use Rattle.elf_form.specs.declared.section.SectionHeader.{SectionHeader}
use Rattle.elf_form.specs.declared.symbol.SymbolEntry.{SymbolEntry}
use Rattle.pn_types.specs.GoodNames.{is_good_name, program_module}
use Rattle.pn_types.specs.declared.image.SymKind.{SymKind}
use Rattle.pn_types.specs.declared.image.SymKind.TheVariants.{Func, Object}
use Rattle.pn_types.specs.declared.image.Symbol.{Symbol}

-- ---- entries

-- a defined function (STT_FUNC, 2) or object (STT_OBJECT, 1): one whose section index isn't SHN_UNDEF (0)
abbrev pub kind_of : SymbolEntry → Option SymKind
kind_of e =
    if e.section == 0 then None
    else if e.info % 16 == 2 then Some Func
    else if e.info % 16 == 1 then Some Object
    else None

-- the name of a source file (STT_FILE, 4)
abbrev pub is_file : SymbolEntry → Bool
is_file e = e.info % 16 == 4

-- a local symbol (STB_LOCAL, 0)
abbrev pub is_local : SymbolEntry → Bool
is_local e = e.info / 16 == 0

-- ---- names

-- a name begins at this place of the strings and ends at a zero byte there
abbrev pub is_ended : List ℕ → ℕ → Bool
is_ended strings at = list_any (λ byte. byte == 0) (drop at strings)

-- the bytes of the strings from this place on, up to a zero byte
abbrev pub name_at : List ℕ → ℕ → List ℕ
name_at strings at = take_while (λ byte. not (byte == 0)) (drop at strings)

-- the module that a source file's name gives
abbrev pub module_of : List ℕ → List ℕ
module_of file = if is_good_name file then file else program_module

-- ---- symbols

-- the symbol of an entry, where the last source file before it has this module
abbrev pub symbol_of : List ℕ → List ℕ → SymbolEntry → SymKind → Symbol
symbol_of strings source e kind = record {
  name = name_at strings e.name;
  kind = kind;
  at = e.value;
  size = e.size;
  «module» = if is_local e then source else program_module;
}

-- the symbols of entries in table order, the module at first being this one
abbrev pub symbols_from : List ℕ → List ℕ → List SymbolEntry → List Symbol
symbols_from strings source [] = []
symbols_from strings source (e ∷ es) =
    if is_file e then symbols_from strings (module_of (name_at strings e.name)) es
    else option_to_list (option_map (symbol_of strings source e) (kind_of e)) ++ symbols_from strings source es

abbrev pub is_of_program : Symbol → Bool
is_of_program s = bytes_eq s.module program_module

-- the symbols of other modules, then those of `program`, each in table order
abbrev pub with_program_last : List Symbol → List Symbol
with_program_last symbols = filter (λ s. not (is_of_program s)) symbols ++ filter is_of_program symbols

-- ---- tables

-- the symbol table: the first section of type SHT_SYMTAB (2)
abbrev pub symbol_table : List SectionHeader → Option SectionHeader
symbol_table sections = find (λ s. s.kind == 2) sections

-- a section of type SHT_STRTAB (3)
abbrev pub if_strings : Option SectionHeader → Option SectionHeader
if_strings None = None
if_strings (Some s) = if s.kind == 3 then Some s else None

-- the string table that a symbol table is linked with
abbrev pub strings_of : List SectionHeader → SectionHeader → Option SectionHeader
strings_of sections symbols = if_strings (slice_get sections symbols.link)

-- the entries of a symbol table
abbrev pub entries_of : List ℕ → SectionHeader → List SymbolEntry
entries_of b symbols = table symbol_entry_of 24 b (symbols.size / 24) symbols.offset

-- the bytes of a section
abbrev pub section_bytes : List ℕ → SectionHeader → List ℕ
section_bytes b s = part b s.offset s.size

-- a section reaches past the end of a file of `len` bytes
abbrev pub is_short : ℕ → SectionHeader → Bool
is_short len s = reaches_past s.offset s.size len

-- the first fault of a symbol table with its string table
abbrev pub table_fault : List ℕ → SectionHeader → Option SectionHeader → Option ElfFault
table_fault b symbols None = Some BadSymbols
table_fault b symbols (Some strings) =
    first_fault (fault_where (not ((symbols.entry_size == 24) && (symbols.size % 24 == 0))) BadSymbols
    ∷ fault_where (is_short (length b) symbols || is_short (length b) strings) (Short (length b))
    ∷ fault_where (not (list_all (λ e. is_ended (section_bytes b strings) e.name) (entries_of b symbols))) BadSymbols
    ∷ [])

abbrev pub symbols_fault_of : List ℕ → List SectionHeader → Option SectionHeader → Option ElfFault
symbols_fault_of b sections None = None
symbols_fault_of b sections (Some symbols) = table_fault b symbols (strings_of sections symbols)

-- the first fault of the symbols of a file with these sections
unfoldable pub symbols_fault : List ℕ → List SectionHeader → Option ElfFault
symbols_fault b sections = symbols_fault_of b sections (symbol_table sections)

-- the symbols of a symbol table with its string table; those before the first source file are the program's
abbrev pub table_symbols : List ℕ → SectionHeader → Option SectionHeader → List Symbol
table_symbols b symbols None = []
table_symbols b symbols (Some strings) = with_program_last (symbols_from (section_bytes b strings) program_module (entries_of b symbols))

abbrev pub symbols_in : List ℕ → List SectionHeader → Option SectionHeader → List Symbol
symbols_in b sections None = []
symbols_in b sections (Some symbols) = table_symbols b symbols (strings_of sections symbols)

-- the symbols of a file with these sections
unfoldable pub symbols_of : List ℕ → List SectionHeader → List Symbol
symbols_of b sections = symbols_in b sections (symbol_table sections)
