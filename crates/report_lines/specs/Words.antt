-- What the words of a line spell, by their places from 0 on; a place where no such word stands tells 0.
use Rattle.std.specs.Prelude.{ℕ, ◌+◌, ◌-◌, ◌*◌, ◌^◌, ◌&&◌, nat_le, nat_lt, if◌then◌else◌, bytes_eq, Option, Some, None, List, [], ◌∷◌, codes, drop, length, take}
use Rattle.std.specs.Option.{option_and_then, unwrap_or}
use Rattle.pn_text.specs.Numbers.{is_digit, small_number}
use Rattle.advice.specs.Words.{decimal_number, word_at}

-- a number of 8 bits
abbrev pub byte_at : ℕ → List ℕ → ℕ
byte_at place line = unwrap_or (small_number (word_at place line) 255) 0

-- a number of 32 bits
abbrev pub short_at : ℕ → List ℕ → ℕ
short_at place line = unwrap_or (small_number (word_at place line) 4294967295) 0

-- the number that a word spells
abbrev pub number_of_word : List ℕ → ℕ
number_of_word word = unwrap_or (decimal_number word) 0

-- a number, or `none`
abbrev pub moment_of : List ℕ → Option ℕ
moment_of word = if bytes_eq word (codes "none") then None else Some (number_of_word word)

-- a number of 32 bits, or `none`
abbrev pub parent_number : List ℕ → Option ℕ
parent_number word = if bytes_eq word (codes "none") then None else Some (unwrap_or (small_number word 4294967295) 0)

-- a number with one more byte behind it
abbrev pub number_before : List ℕ → ℕ
number_before word = number_of_word (take (length word - 1) word)

-- ---- addresses

-- what a lower case hexadecimal digit counts
abbrev pub hexadecimal_digit : ℕ → Option ℕ
hexadecimal_digit byte =
    if is_digit byte then Some (byte - 48) else if nat_le 97 byte && nat_le byte 102 then Some (byte - 87) else None

-- a number of 64 bits
abbrev pub narrow : ℕ → Option ℕ
narrow n = if nat_lt n (2 ^ 64) then Some n else None

-- the number whose first digits give n, and whose others are these bytes
abbrev pub hexadecimal_from : ℕ → List ℕ → Option ℕ
hexadecimal_from n [] = Some n
hexadecimal_from n (byte ∷ bytes) =
    option_and_then (λ value. hexadecimal_from value bytes) (option_and_then (λ digit. narrow (n * 16 + digit)) (hexadecimal_digit byte))

-- an address without its `0x`
abbrev pub address_at : ℕ → List ℕ → ℕ
address_at place line = unwrap_or (hexadecimal_from 0 (drop 2 (word_at place line))) 0
