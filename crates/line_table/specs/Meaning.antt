-- The line table of a file, and the names of its directories and files.
use Rattle.std.specs.Prelude.{ℕ, ◌-◌, ◌==◌, if◌then◌else◌, Bool, false, Option, Some, None, List, [], ◌∷◌, ◌++◌, Result, Ok, codes, option_map, unwrap_or, slice_get}
use Rattle.elf_form.specs.Symbols.{name_at}
use Rattle.line_table.specs.Reading.{◌>>=◌}
use Rattle.line_table.specs.Sections.{section_named}
use Rattle.line_table.specs.Tables.{rows_of}
use Rattle.line_table.specs.Strings.{ended_len}
use Rattle.line_table.specs.Paths.{paths_of}
use Rattle.line_table.specs.declared.fault.LineFault.{LineFault}
use Rattle.line_table.specs.declared.paths.Path.{Path}
use Rattle.line_table.specs.declared.paths.UnitPaths.{UnitPaths}
use Rattle.line_table.specs.declared.registers.LineTable.{LineTable}
use Rattle.line_table.specs.declared.strings.StringEnds.{StringEnds}
use Rattle.line_table.specs.declared.strings.StringPlace.{StringPlace}
use Rattle.line_table.specs.declared.strings.StringSection.{StringSection}
use Rattle.line_table.specs.declared.strings.StringSection.TheVariants.{Line, LineStr, Str}

-- the name of a section, with the zero byte that ends it
abbrev pub section_name : StringSection → List ℕ
section_name Line = codes ".debug_line" ++ 0 ∷ []
section_name LineStr = codes ".debug_line_str" ++ 0 ∷ []
section_name Str = codes ".debug_str" ++ 0 ∷ []

-- the content of a section, which is empty where there is none
abbrev pub content_of : List ℕ → StringSection → List ℕ
content_of elf «section» = unwrap_or (section_named elf (section_name «section»)) []

-- ---- rows

abbrev pub table_of : Option (List ℕ) → Result (Option LineTable) LineFault
table_of None = Ok None
table_of (Some b) = rows_of b >>= λ rows. Ok (Some (record { rows = rows }))

-- The line table of an ELF file, where it has one, or its first fault.
unfoldable pub meaning_of : List ℕ → Result (Option LineTable) LineFault
meaning_of elf = table_of (section_named elf (section_name Line))

-- ---- directories and files

abbrev pub ends_of : List ℕ → StringEnds
ends_of elf = record { line_str = ended_len (content_of elf LineStr); str = ended_len (content_of elf Str) }

abbrev pub paths_in : StringEnds → Option (List ℕ) → Result (Option (List UnitPaths)) LineFault
paths_in ends None = Ok None
paths_in ends (Some b) = paths_of ends b >>= λ units. Ok (Some units)

-- The directories and files of an ELF file's units, where it has a line table, or their first fault.
unfoldable pub paths_meaning : List ℕ → Result (Option (List UnitPaths)) LineFault
paths_meaning elf = paths_in (ends_of elf) (section_named elf (section_name Line))

-- ---- names

-- the text of a string
unfoldable pub text_at : List ℕ → StringPlace → List ℕ
text_at elf place = name_at (content_of elf place.section) place.at

-- the directory or file of a number, which counts from 1 on in version 4, and from 0 on in version 5
abbrev pub numbered : ℕ → List Path → ℕ → Option Path
numbered version paths n =
    if version == 5 then slice_get paths n
    else if n == 0 then None
    else slice_get paths (n - 1)

-- a name in a directory, where it is in one; a name that begins with `/` (47) is not
abbrev pub is_absolute : List ℕ → Bool
is_absolute [] = false
is_absolute (x ∷ xs) = x == 47

abbrev pub joined : Option (List ℕ) → List ℕ → List ℕ
joined None name = name
joined (Some directory) name = if is_absolute name then name else (directory ++ 47 ∷ []) ++ name

-- the name of a file of a unit, in its directory
abbrev pub file_name_in : List ℕ → UnitPaths → Path → List ℕ
file_name_in elf unit file =
    joined (option_map (λ directory. text_at elf directory.name) (numbered unit.version unit.directories file.directory)) (text_at elf file.name)

-- The name of the file of a number of a unit.
abbrev pub file_name : List ℕ → UnitPaths → ℕ → Option (List ℕ)
file_name elf unit n = option_map (file_name_in elf unit) (numbered unit.version unit.files n)
