-- Values of 64 bits of which the upper half are negative numbers.
use Rattle.std.specs.Prelude.{ℕ, ◌+◌, ◌-◌, ◌/◌, ◌%◌, ◌^◌, nat_lt, if◌then◌else◌, Bool, List, ◌++◌, codes, sum_by}
use Rattle.std.specs.Fmt.{decimal}
use Rattle.std.specs.List.{reduce}
use Rattle.std.specs.Option.{unwrap_or}

-- a sum modulo 2 ^ 64
abbrev pub sum_of : List ℕ → ℕ
sum_of values = sum_by (λ value. value) values % 2 ^ 64

abbrev pub is_negative : ℕ → Bool
is_negative value = nat_lt 9223372036854775807 value

-- a value divided by a count, rounded towards 0
abbrev pub quotient_text : ℕ → ℕ → List ℕ
quotient_text value count =
    if is_negative value then codes "-" ++ decimal ((2 ^ 64 - value) / count) else decimal (value / count)

abbrev pub signed_number : ℕ → List ℕ
signed_number value = quotient_text value 1

-- ---- order

-- where a value stands among all, the least at 0; and the value that stands there
abbrev pub rank : ℕ → ℕ
rank value = (value + 2 ^ 63) % 2 ^ 64

-- the least and the greatest of some values; 0 of none
abbrev pub least : List ℕ → ℕ
least values = unwrap_or (reduce (λ a b. if nat_lt (rank b) (rank a) then b else a) values) 0

abbrev pub greatest : List ℕ → ℕ
greatest values = unwrap_or (reduce (λ a b. if nat_lt (rank a) (rank b) then b else a) values) 0
