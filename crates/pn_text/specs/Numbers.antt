-- Decimal numbers.
use Rattle.std.specs.Prelude.{ℕ, ◌+◌, ◌-◌, ◌*◌, ◌&&◌, nat_le, if◌then◌else◌, Bool, Option, Some, None, List, [], ◌∷◌, length}
use Rattle.std.specs.Option.{option_and_then}

-- a byte from `0` to `9`
abbrev pub is_digit : ℕ → Bool
is_digit byte = nat_le 48 byte && nat_le byte 57

-- the number whose first digits give n, and whose others are these bytes
abbrev pub decimal_from : ℕ → List ℕ → Option ℕ
decimal_from n [] = Some n
decimal_from n (byte ∷ bytes) = if is_digit byte then decimal_from (n * 10 + (byte - 48)) bytes else None

-- the number, unless it is above the most
abbrev pub at_most : ℕ → ℕ → Option ℕ
at_most most n = if nat_le n most then Some n else None

-- the number of a text of 1 to 10 digits that is not above the most
abbrev pub small_number : List ℕ → ℕ → Option ℕ
small_number text most =
    if nat_le 1 (length text) && nat_le (length text) 10 then option_and_then (at_most most) (decimal_from 0 text) else None
