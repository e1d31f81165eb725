-- How a column is read.
use Rattle.std.specs.Prelude.{ℕ, ◌<◌, ◌^◌, List, Option, SomeIff}
use Rattle.std.specs.Str.Parse.{IsNumeral, digits_value, without_leading_plus}

-- the result is the number that the hexadecimal digits write, where these are all the text and it has no more bits
abbrev pub ReadsHexadecimal : ℕ → List ℕ → Option ℕ → Type 0
ReadsHexadecimal bits text answer =
    let digits = without_leading_plus text in
    SomeIff answer (IsNumeral 16 digits × (digits_value 16 digits < 2 ^ bits)) (digits_value 16 digits)
