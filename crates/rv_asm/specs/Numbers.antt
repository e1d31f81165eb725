-- Numbers as a text spells them.
use Rattle.std.specs.Prelude.{ℕ, ◌+◌, ◌-◌, ◌*◌, ◌^◌, ◌%◌, ◌&&◌, nat_le, nat_lt, min, Bool, if◌then◌else◌, Option, Some, None, List, [], ◌∷◌, take, drop, codes, bytes_eq}
use Rattle.std.specs.Option.{option_and_then, option_map}
use Rattle.pn_text.specs.Numbers.{is_digit}
use Rattle.rv_asm.specs.declared.number.Number.{Number}

-- what a digit counts, also of `a` to `f` in either case
abbrev pub digit_of : ℕ → Option ℕ
digit_of byte =
    if is_digit byte then Some (byte - 48)
    else if nat_le 97 byte && nat_le byte 102 then Some (byte - 87)
    else if nat_le 65 byte && nat_le byte 70 then Some (byte - 55)
    else None

-- what it counts, if it is below the base
abbrev pub below : ℕ → ℕ → Option ℕ
below base digit = if nat_lt digit base then Some digit else None

-- the number whose first digits give n, and whose others are these bytes
abbrev pub digits_from : ℕ → ℕ → List ℕ → Option ℕ
digits_from base n [] = Some n
digits_from base n (byte ∷ bytes) =
    option_and_then (λ digit. digits_from base (n * base + digit) bytes)
    (option_and_then (below base) (digit_of byte))

-- a number has a digit at least
abbrev pub digits_of : ℕ → List ℕ → Option ℕ
digits_of base [] = None
digits_of base (byte ∷ bytes) = digits_from base 0 (byte ∷ bytes)

-- what is kept of a size: no place takes one of 2^64
abbrev pub kept : ℕ → ℕ
kept n = min n (2 ^ 64)

-- the size of a number without its sign: decimal, or hexadecimal after `0x`
unfoldable pub size_of : List ℕ → Option ℕ
size_of word = option_map kept (if bytes_eq (take 2 word) (codes "0x") then digits_of 16 (drop 2 word) else digits_of 10 word)

-- the number is from -low to high
unfoldable pub within : ℕ → ℕ → Number → Bool
within low high n = if n.negative then nat_le n.size low else nat_le n.size high

-- the number as 64 bits; every place takes only numbers from -2^63 to 2^64 - 1
unfoldable pub wrapped : Number → ℕ
wrapped n = if n.negative then (2 ^ 64 - n.size % 2 ^ 64) % 2 ^ 64 else n.size % 2 ^ 64
