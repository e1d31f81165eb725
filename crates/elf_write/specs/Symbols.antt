-- The symbol table and the string table (System V ABI: symbol table, string table).
use Rattle.std.specs.Prelude.{ℕ, ◌+◌, not, if◌then◌else◌, List, [], ◌∷◌, ◌++◌, length, filter, map}
use Rattle.std.specs.Str.{bytes_eq}
use Rattle.std.specs.List.{flat_map}
use Rattle.elf_form.specs.Symbols.{is_of_program}
use Rattle.pn_types.specs.GoodNames.{program_module}
use Rattle.elf_write.specs.Fields.{halves, words, doublewords}
use Rattle.elf_write.specs.declared.symbols.Entry.{Entry}
use Rattle.pn_types.specs.declared.image.SymKind.{SymKind}
use Rattle.pn_types.specs.declared.image.SymKind.TheVariants.{Func, Object}
use Rattle.pn_types.specs.declared.image.Symbol.{Symbol}

-- an entry with its name
pub record Named : Type 0 where
  pub name : List ℕ
  pub entry : Entry

-- STT_FUNC and STT_OBJECT
abbrev pub type_of : SymKind → ℕ
type_of Func = 2
type_of Object = 1

-- the entry of a symbol with a binding: STB_LOCAL (0), or STB_GLOBAL (1), which is 16 in st_info
abbrev pub entry_with : ℕ → Symbol → Named
entry_with binding s = record {
  name = s.name;
  entry = record { info = binding + type_of s.kind; section = 1; value = s.at; size = s.size };
}

-- the entry of a source file: STT_FILE and SHN_ABS
abbrev pub file_entry : List ℕ → Named
file_entry name = record { name = name; entry = record { info = 4; section = 0xfff1; value = 0; size = 0 } }

-- the entries of a local symbol, after one of the module `source`: where the module changes, the entry of its source file
-- comes first
abbrev pub entries_after : List ℕ → Symbol → List Named
entries_after source s =
    if bytes_eq s.module source then entry_with 0 s ∷ [] else file_entry s.module ∷ entry_with 0 s ∷ []

-- the entries of local symbols, after one of the module `source`
abbrev pub local_entries : List ℕ → List Symbol → List Named
local_entries source [] = []
local_entries source (s ∷ ss) = entries_after source s ++ local_entries s.module ss

-- the symbols of modules other than `program`, as local ones: each longest run of one module has the entry of its source
-- file and then its symbols
abbrev pub locals_of : List Symbol → List Named
locals_of symbols = local_entries program_module (filter (λ s. not (is_of_program s)) symbols)

-- the symbols of `program`, as global ones
abbrev pub globals_of : List Symbol → List Named
globals_of symbols = map (entry_with 16) (filter is_of_program symbols)

-- the first entry, which is null and has no name
abbrev pub null_entry : Named
null_entry = record { name = []; entry = record { info = 0; section = 0; value = 0; size = 0 } }

-- all entries
abbrev pub entries_of : List Symbol → List Named
entries_of symbols = null_entry ∷ locals_of symbols ++ globals_of symbols

-- an entry whose name stands at a place of the string table (st_name, st_info, st_other, st_shndx, st_value, st_size)
abbrev pub entry_bytes : ℕ → Entry → List ℕ
entry_bytes place e = words (place ∷ []) ++ (e.info ∷ 0 ∷ []) ++ halves (e.section ∷ []) ++ doublewords (e.value ∷ e.size ∷ [])

-- the bytes of entries, the first name standing at a place, and each other one after the one before
abbrev pub entries_bytes : ℕ → List Named → List ℕ
entries_bytes place [] = []
entries_bytes place (e ∷ es) = entry_bytes place e.entry ++ entries_bytes (place + length e.name + 1) es

-- the names of entries, each with a zero byte
abbrev pub names_of : List Named → List ℕ
names_of entries = flat_map (λ e. e.name ++ 0 ∷ []) entries

-- the symbol table
unfoldable pub symbol_table : List Symbol → List ℕ
symbol_table symbols = entries_bytes 0 (entries_of symbols)

-- the string table; the first byte is the end of the name of the null entry
unfoldable pub string_table : List Symbol → List ℕ
string_table symbols = names_of (entries_of symbols)
