-- Numbers of two reports side by side.
use Rattle.std.specs.Prelude.{ℕ, ◌+◌, ◌-◌, ◌%◌, ◌^◌, ◌==◌, nat_lt, if◌then◌else◌, List, [], ◌++◌, codes}
use Rattle.std.specs.Fmt.{decimal}
use Rattle.report_view.specs.Harts.{aligned}
use Rattle.report_view.specs.Searches.{percent}
use Rattle.report_view.specs.Signed.{is_negative, signed_number}
use Rattle.report_diff.specs.declared.numbers.Change.{Change}

-- ---- changes

-- how far a value is from 0
abbrev pub distance : ℕ → ℕ
distance value = if is_negative value then 2 ^ 64 - value else value

-- from one number to another
abbrev pub change_of_numbers : ℕ → ℕ → Change
change_of_numbers old new = record { negative = nat_lt new old; size = if nat_lt new old then old - new else new - old }

-- from one value of 64 bits to another, modulo 2 ^ 64, of which the upper half are negative numbers
abbrev pub signed_change : ℕ → Change
signed_change value = record { negative = is_negative value; size = distance value }

abbrev pub change_of_values : ℕ → ℕ → Change
change_of_values old new = signed_change ((new + 2 ^ 64 - old) % 2 ^ 64)

-- ---- their texts

abbrev pub change_sign : Change → List ℕ
change_sign c = if c.size == 0 then [] else if c.negative then codes "-" else codes "+"

abbrev pub change_text : Change → List ℕ
change_text c = change_sign c ++ decimal c.size

-- a change for a hundred of what was there, with one decimal, rounded towards 0; a dash where that was 0
abbrev pub change_percent : ℕ → Change → List ℕ
change_percent old c = if old == 0 then codes "-" else change_sign c ++ percent c.size old

-- ---- rows

-- a text behind a space, at the right of a column
abbrev pub column : ℕ → List ℕ → List ℕ
column width text = codes " " ++ aligned width text

-- four columns, and a label
unfoldable pub columns_line : List ℕ → List ℕ → List ℕ → List ℕ → List ℕ → List ℕ
columns_line old new difference share label =
    column 15 old ++ column 15 new ++ column 15 difference ++ column 8 share ++ codes "  " ++ label ++ codes "\n"

abbrev pub columns_heading : List ℕ → List ℕ
columns_heading label = columns_line (codes "old") (codes "new") (codes "difference") (codes "percent") label

-- two numbers, and the change from the one to the other
unfoldable pub numbers_row : ℕ → ℕ → List ℕ → List ℕ
numbers_row old new label =
    columns_line (decimal old) (decimal new) (change_text (change_of_numbers old new)) (change_percent old (change_of_numbers old new)) label

-- two values of 64 bits, and the change from the one to the other
unfoldable pub values_row : ℕ → ℕ → List ℕ → List ℕ
values_row old new label =
    columns_line (signed_number old) (signed_number new) (change_text (change_of_values old new))
    (change_percent (distance old) (change_of_values old new)) label
