-- The columns of tables.
use Rattle.std.specs.Prelude.{ℕ, ◌-◌, ◌*◌, ◌/◌, ◌%◌, ◌==◌, if◌then◌else◌, List, ◌++◌, codes, length, replicate}
use Rattle.std.specs.Fmt.{decimal}

-- a text with blanks in front, up to a width
abbrev pub padded : ℕ → List ℕ → List ℕ
padded width text = replicate (width - length text) 32 ++ text

-- n of so many, per mille, rounded down
abbrev pub per_mille : ℕ → ℕ → ℕ
per_mille n all = if all == 0 then 0 else n * 1000 / all

-- the same in per cent, with one decimal
abbrev pub share_text : ℕ → ℕ → List ℕ
share_text n all = decimal (per_mille n all / 10) ++ codes "." ++ decimal (per_mille n all % 10) ++ codes "%"

-- the columns in front of a name
abbrev pub columns : List ℕ → List ℕ → List ℕ → List ℕ
columns share ticks entered = padded 7 share ++ padded 12 ticks ++ padded 12 entered ++ codes "  "

-- those of ticks out of so many
abbrev pub ticks_columns : ℕ → ℕ → List ℕ → List ℕ
ticks_columns all ticks entered = columns (share_text ticks all) (decimal ticks) entered
