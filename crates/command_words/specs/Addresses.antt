-- Addresses as words give them: parted by commas, each `0x` and hexadecimal digits.
use Rattle.std.specs.Prelude.{ℕ, ◌+◌, ◌-◌, ◌*◌, ◌^◌, ◌==◌, ◌&&◌, nat_le, nat_lt, if◌then◌else◌, Bool, Option, Some, None, is_some, List, [], ◌∷◌, drop, length, codes}
use Rattle.std.specs.List.{filter_map, list_all, slice_split}
use Rattle.std.specs.Option.{option_and_then, option_map_or}
use Rattle.pn_text.specs.Numbers.{is_digit}
use Rattle.command_words.specs.Grammar.{Text, Given, begins}

-- what a hexadecimal digit counts, in either case
abbrev pub hex_digit : ℕ → Option ℕ
hex_digit byte =
    if is_digit byte then Some (byte - 48)
    else if nat_le 97 byte && nat_le byte 102 then Some (byte - 87)
    else if nat_le 65 byte && nat_le byte 70 then Some (byte - 55)
    else None

-- a number of 64 bits
abbrev pub narrow : ℕ → Option ℕ
narrow n = if nat_lt n (2 ^ 64) then Some n else None

-- the number whose first digits give n, and whose others are these bytes
abbrev pub hex_from : ℕ → List ℕ → Option ℕ
hex_from n [] = Some n
hex_from n (byte ∷ bytes) =
    option_and_then (λ value. hex_from value bytes) (option_and_then (λ digit. narrow (n * 16 + digit)) (hex_digit byte))

-- an address: `0x`, and at least one digit
abbrev pub address_of : Text → Option ℕ
address_of text = if begins (codes "0x") text && nat_lt 2 (length text) then hex_from 0 (drop 2 text) else None

abbrev pub is_comma : ℕ → Bool
is_comma byte = byte == 44

-- the parts of what follows a comma, if something does
abbrev pub parts_left : Option Text → List Text
parts_left rest = option_map_or (slice_split is_comma) rest []

-- each part between commas is an address
abbrev pub are_addresses : Text → Bool
are_addresses text = list_all (λ part. is_some (address_of part)) (slice_split is_comma text)

abbrev pub addresses_of : Text → List ℕ
addresses_of text = filter_map address_of (slice_split is_comma text)

-- the addresses, if all parts are
abbrev pub addresses_told : Text → Option (List ℕ)
addresses_told text = if are_addresses text then Some (addresses_of text) else None

-- the addresses of a text, and none where there is no text
abbrev pub also_told : Option Text → Option (List ℕ)
also_told text = option_map_or addresses_told text (Some [])

-- the addresses that `also` gives
abbrev pub also_given : Given → Option (List ℕ)
also_given given = also_told (given (codes "also"))
