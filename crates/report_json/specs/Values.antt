-- Values of JSON.
use Rattle.std.specs.Prelude.{ℕ, Option, Some, None, List, [], ◌∷◌, ◌++◌}
use Rattle.std.specs.Fmt.{decimal, signed_decimal}
use Rattle.std.specs.Int.{cast_signed, w64}
use Rattle.std.specs.Str.{encode_utf8_all}
use Rattle.json.specs.Token.{Token, key}
use Rattle.json.specs.Tree.{json_tokens}
use Rattle.json.specs.Json.{Json, null, number, string, array, object, Items, no_items, item, Members, no_members, member}

-- values in order
abbrev pub items_of : List Json → Items
items_of [] = no_items
items_of (j ∷ js) = item j (items_of js)

abbrev pub array_of : List Json → Json
array_of js = array (items_of js)

-- values with their names, in order
abbrev pub members_of : List (List ℕ × Json) → Members
members_of [] = no_members
members_of (m ∷ ms) = member m.0 m.1 (members_of ms)

-- their tokens, without the brackets
abbrev pub named_tokens : List (List ℕ × Json) → List Token
named_tokens [] = []
named_tokens (m ∷ ms) = key m.0 ∷ (json_tokens m.1 ++ named_tokens ms)

abbrev pub object_of : List (List ℕ × Json) → Json
object_of ms = object (members_of ms)

abbrev pub natural : ℕ → Json
natural n = number (decimal n)

-- a value of 64 bits of which the upper half are negative numbers
abbrev pub signed : ℕ → Json
signed n = number (signed_decimal (cast_signed w64 n))

-- bytes of any values: each is the character of its number, from U+0000 to U+00FF
abbrev pub byte_string : List ℕ → Json
byte_string bytes = string (encode_utf8_all bytes)

-- ---- what may be missing

abbrev pub natural_or_null : Option ℕ → Json
natural_or_null None = null
natural_or_null (Some n) = natural n
