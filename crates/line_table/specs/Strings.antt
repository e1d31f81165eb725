-- The strings that name directories and files: in `.debug_line` itself, `.debug_line_str` or `.debug_str`.
use Rattle.std.specs.Prelude.{ℕ, suc, ◌+◌, ◌==◌, ◌||◌, not, nat_lt, if◌then◌else◌, List, [], ◌∷◌, length, drop, Ok, Err}
use Rattle.std.specs.List.{prefix_len}
use Rattle.line_table.specs.Reading.{Read, fault, ◌>>=◌}
use Rattle.line_table.specs.Numbers.{number}
use Rattle.line_table.specs.declared.fault.FaultKind.TheVariants.{Truncated, BadString}
use Rattle.line_table.specs.declared.strings.StringSection.{StringSection}
use Rattle.line_table.specs.declared.strings.StringSection.TheVariants.{Line}
use Rattle.line_table.specs.declared.strings.StringPlace.{StringPlace}

abbrev pub place_in : StringSection → ℕ → StringPlace
place_in «section» at = record { «section» = «section»; at = at }

-- how many bytes there are up to the last zero byte: a string that begins before is ended
abbrev pub ended_len : List ℕ → ℕ
ended_len [] = 0
ended_len (x ∷ xs) = if (x == 0) || nat_lt 0 (ended_len xs) then suc (ended_len xs) else 0

-- how many bytes there are before the first zero byte, or in all
abbrev pub name_len : List ℕ → ℕ
name_len b = prefix_len (λ byte. not (byte == 0)) b

-- the string of these bytes themselves that begins at a place
unfoldable pub string_here : List ℕ → ℕ → Read StringPlace
string_here b at =
    if nat_lt (at + name_len (drop at b)) (length b)
    then Ok (place_in Line at, at + name_len (drop at b) + 1)
    else Err (fault at Truncated)

-- the string of a section, of which so many bytes are ended, whose place there stands at a place
unfoldable pub string_there : StringSection → ℕ → List ℕ → ℕ → Read StringPlace
string_there «section» ended b at = do
  place ← number 4 b at
  if nat_lt place.0 ended then Ok (place_in «section» place.0, place.1) else Err (fault at BadString)
