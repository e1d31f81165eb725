-- The directories and files of a unit (DWARF 5, sections 6.2.4.1 and 7.5.6; DWARF 4, section 6.2.4).
use Rattle.std.specs.Prelude.{ℕ, zero, suc, ◌+◌, ◌==◌, nat_lt, if◌then◌else◌, Bool, true, false, Option, Some, None, List, [], ◌∷◌, length, take, Result, Ok, Err}
use Rattle.line_table.specs.Reading.{Read, fault, ◌>>=◌, many}
use Rattle.line_table.specs.Numbers.{number, uleb}
use Rattle.line_table.specs.Units.{tables_place}
use Rattle.line_table.specs.Tables.{units_from}
use Rattle.line_table.specs.Strings.{string_here, string_there}
use Rattle.line_table.specs.declared.fault.FaultKind.TheVariants.{Truncated, BadForm}
use Rattle.line_table.specs.declared.fault.LineFault.{LineFault}
use Rattle.line_table.specs.declared.forms.Format.{Format}
use Rattle.line_table.specs.declared.forms.FormValue.{FormValue}
use Rattle.line_table.specs.declared.forms.FormValue.TheVariants.{Number, Name, Other}
use Rattle.line_table.specs.declared.forms.Entry.{Entry}
use Rattle.line_table.specs.declared.paths.Path.{Path}
use Rattle.line_table.specs.declared.paths.UnitPaths.{UnitPaths}
use Rattle.line_table.specs.declared.strings.StringEnds.{StringEnds}
use Rattle.line_table.specs.declared.strings.StringPlace.{StringPlace}
use Rattle.line_table.specs.declared.strings.StringSection.TheVariants.{LineStr, Str}
use Rattle.line_table.specs.declared.unit.UnitHeader.{UnitHeader}

-- ---- version 5: the values of an entry

-- n bytes that don't count
abbrev pub other : ℕ → List ℕ → ℕ → Read FormValue
other n b at = if nat_lt (length b) (at + n) then Err (fault at Truncated) else Ok (Other, at + n)

abbrev pub number_value : Read ℕ → Read FormValue
number_value read = read >>= λ n. Ok (Number n.0, n.1)

abbrev pub name_value : Read StringPlace → Read FormValue
name_value read = read >>= λ place. Ok (Name place.0, place.1)

-- a number in its form: DW_FORM_udata (0x0f), DW_FORM_data1 (0x0b), DW_FORM_data2 (0x05), DW_FORM_data4 (0x06) or
-- DW_FORM_data8 (0x07)
abbrev pub number_in : ℕ → List ℕ → ℕ → Read FormValue
number_in form b at =
    if form == 0x0f then number_value (uleb b at)
    else if form == 0x0b then number_value (number 1 b at)
    else if form == 0x05 then number_value (number 2 b at)
    else if form == 0x06 then number_value (number 4 b at)
    else if form == 0x07 then number_value (number 8 b at)
    else Err (fault at BadForm)

-- a value in its form: DW_FORM_string (0x08), DW_FORM_line_strp (0x1f), DW_FORM_strp (0x0e), DW_FORM_data16 (0x1e),
-- DW_FORM_block (0x09), or that of a number
unfoldable pub form_value : StringEnds → ℕ → List ℕ → ℕ → Read FormValue
form_value ends form b at =
    if form == 0x08 then name_value (string_here b at)
    else if form == 0x1f then name_value (string_there LineStr ends.line_str b at)
    else if form == 0x0e then name_value (string_there Str ends.str b at)
    else if form == 0x1e then other 16 b at
    else if form == 0x09 then (uleb b at >>= λ n. other n.0 b n.1)
    else number_in form b at

-- an entry with one value more: its name (DW_LNCT_path, 1), its directory (DW_LNCT_directory_index, 2), or what doesn't count
abbrev pub with_name : Entry → FormValue → ℕ → Result Entry LineFault
with_name e (Name place) at = Ok (record e { name = Some place })
with_name e (Number n) at = Err (fault at BadForm)
with_name e Other at = Err (fault at BadForm)

abbrev pub with_directory : Entry → FormValue → ℕ → Result Entry LineFault
with_directory e (Name place) at = Err (fault at BadForm)
with_directory e (Number n) at = Ok (record e { directory = n })
with_directory e Other at = Err (fault at BadForm)

abbrev pub with_value : Entry → ℕ → FormValue → ℕ → Result Entry LineFault
with_value e content value at =
    if content == 1 then with_name e value at
    else if content == 2 then with_directory e value at
    else Ok e

abbrev pub no_values : Entry
no_values = record { name = None; directory = 0 }

-- the values of an entry in these formats
abbrev pub values_from : StringEnds → List Format → List ℕ → Entry → ℕ → Read Entry
values_from ends [] b e at = Ok (e, at)
values_from ends (f ∷ fs) b e at =
    form_value ends f.form b at >>= λ value. with_value e f.content value.0 at >>= λ more. values_from ends fs b more value.1

-- an entry has a name
abbrev pub path_of : Option StringPlace → ℕ → ℕ → Result Path LineFault
path_of None directory at = Err (fault at BadForm)
path_of (Some name) directory at = Ok (record { name = name; directory = directory })

unfoldable pub path_at : StringEnds → List Format → List ℕ → ℕ → Read Path
path_at ends formats b at =
    values_from ends formats b no_values at >>= λ e. path_of e.0.name e.0.directory at >>= λ path. Ok (path, e.1)

-- ---- version 5: tables

-- a format: the kind of content and the form
unfoldable pub format_at : List ℕ → ℕ → Read Format
format_at b at =
    uleb b at >>= λ content. uleb b content.1 >>= λ form. Ok (record { content = content.0; form = form.0 }, form.1)

-- the number of formats, the formats, the number of entries, and the entries
unfoldable pub path_table : StringEnds → List ℕ → ℕ → Read (List Path)
path_table ends b at =
    number 1 b at >>= λ count. many (format_at b) count.0 count.1 >>= λ formats. uleb b formats.1 >>= λ n.
    many (path_at ends formats.0 b) n.0 n.1

-- ---- version 4: lists

-- a directory is a name alone; behind the name of a file its directory, its time and its length stand
abbrev pub details : Bool → StringPlace → List ℕ → ℕ → Read (Option Path)
details false name b at = Ok (Some (record { name = name; directory = 0 }), at)
details true name b at =
    uleb b at >>= λ directory. uleb b directory.1 >>= λ time. uleb b time.1 >>= λ size.
    Ok (Some (record { name = name; directory = directory.0 }), size.1)

-- the directory or file at a place; an empty name is none
unfoldable pub path_here : Bool → List ℕ → ℕ → Read (Option Path)
path_here is_file b at =
    string_here b at >>= λ name. if name.1 == at + 1 then Ok (None, name.1) else details is_file name.0 b name.1

abbrev pub and_more : Option Path → ℕ → Read (List Path) → Read (List Path)
and_more None at more = Ok ([], at)
and_more (Some path) at more = more >>= λ paths. Ok (path ∷ paths.0, paths.1)

-- The directories or files from a place on up to an empty name, of which there are at most n. Since each has a byte or
-- more, n is never too small where it is the number of bytes.
abbrev pub listed_from : ℕ → Bool → List ℕ → ℕ → Read (List Path)
listed_from zero is_file b at = Err (fault at Truncated)
listed_from (suc n) is_file b at =
    path_here is_file b at >>= λ found. and_more found.0 found.1 (listed_from n is_file b found.1)

unfoldable pub listed : Bool → List ℕ → ℕ → Read (List Path)
listed is_file b at = listed_from (length b) is_file b at

-- ---- units

-- the directories, or the files, of a unit of a version
abbrev pub paths_at : ℕ → StringEnds → Bool → List ℕ → ℕ → Read (List Path)
paths_at version ends is_file b at = if version == 5 then path_table ends b at else listed is_file b at

-- the directories and files of a unit, where `b` ends as its program begins
unfoldable pub unit_paths : UnitHeader → StringEnds → List ℕ → Result UnitPaths LineFault
unit_paths h ends b =
    paths_at h.version ends false b (tables_place h) >>= λ directories.
    paths_at h.version ends true b directories.1 >>= λ files.
    Ok (record { unit = h.at; version = h.version; directories = directories.0; files = files.0 })

abbrev pub paths_of_unit : StringEnds → List ℕ → UnitHeader → Result (List UnitPaths) LineFault
paths_of_unit ends b h = unit_paths h ends (take h.program b) >>= λ paths. Ok (paths ∷ [])

-- those of `.debug_line`
unfoldable pub paths_of : StringEnds → List ℕ → Result (List UnitPaths) LineFault
paths_of ends b = units_from (paths_of_unit ends b) (length b) b 0
