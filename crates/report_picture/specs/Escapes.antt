-- Texts as XML and HTML have them.
use Rattle.std.specs.Prelude.{ℕ, ◌==◌, ◌&&◌, ◌||◌, nat_le, not, if◌then◌else◌, Bool, List, [], ◌∷◌, ◌++◌, codes, flat_map, length, take}
use Rattle.std.specs.List.{list_any}
use Rattle.std.specs.Str.Lossy.{utf8_valid_len}

-- a text is UTF-8, and has no character from U+F000 to U+FFFF, of which XML doesn't allow all
unfoldable pub is_allowed : List ℕ → Bool
is_allowed text = (utf8_valid_len text == length text) && not (list_any (λ byte. byte == 239) text)

-- a byte that can be printed stands for itself or has an entity, also one above ASCII in an allowed text; any other is a question mark
abbrev pub escaped_byte : Bool → ℕ → List ℕ
escaped_byte allowed byte =
    if byte == 38 then codes "&amp;" else if byte == 60 then codes "&lt;" else if byte == 62 then codes "&gt;"
    else if byte == 34 then codes "&quot;"
    else if (nat_le 32 byte && nat_le byte 126) || (allowed && nat_le 128 byte) then byte ∷ [] else codes "?"

unfoldable pub escaped : List ℕ → List ℕ
escaped text = flat_map (escaped_byte (is_allowed text)) text

-- a name at a focus
unfoldable pub escaped_pair : List ℕ → List ℕ → List ℕ
escaped_pair name focus = escaped name ++ codes " " ++ escaped focus

-- a text of at most 90 bytes; of a longer one the first 87 and dots
unfoldable pub clipped : List ℕ → List ℕ
clipped text = if nat_le (length text) 90 then text else take 87 text ++ codes "..."
