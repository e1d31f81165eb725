-- The table of a profile for a person.
use Rattle.std.specs.Prelude.{ℕ, ◌==◌, if◌then◌else◌, List, [], ◌∷◌, ◌++◌, codes, drop, flat_map, length, sum_by, take}
use Rattle.std.specs.Fmt.{decimal}
use Rattle.pn_types.specs.declared.code.Proc.{Proc}
use Rattle.pn_types.specs.declared.image.Image.{Image}
use Rattle.word_counts.specs.declared.profile.Profile.{Profile}
use Rattle.profile_text.specs.Columns.{columns, ticks_columns}
use Rattle.profile_text.specs.Names.{path_of}
use Rattle.profile_text.specs.Rows.{Row, rows_of}
use Rattle.profile_text.specs.Totals.{ticks_of, ticks_of_none, ticks_outside}

-- ---- the whole run

abbrev pub harts_text : ℕ → List ℕ
harts_text n = if n == 1 then codes "1 hart" else decimal n ++ codes " harts"

abbrev pub untold_count : ℕ → List ℕ
untold_count untold = codes ", " ++ decimal untold ++ codes " untold"

abbrev pub untold_meaning : List ℕ
untold_meaning = codes ": each number is that or more, together at most "

abbrev pub untold_bound : ℕ → List ℕ
untold_bound untold = decimal untold ++ codes " more\n"

abbrev pub untold_text : ℕ → List ℕ
untold_text untold = untold_count untold ++ untold_meaning ++ untold_bound untold

abbrev pub told_text : ℕ → List ℕ
told_text untold = if untold == 0 then codes ", all told: each number is exact\n" else untold_text untold

abbrev pub total_line : ℕ → ℕ → ℕ → List ℕ
total_line ticks harts untold = codes "ticks " ++ decimal ticks ++ codes " on " ++ harts_text harts ++ told_text untold

abbrev pub heading : List ℕ
heading = columns (codes "share") (codes "ticks") (codes "entered") ++ codes "procedure\n"

-- ---- lines

abbrev pub row_line : ℕ → Row → List ℕ
row_line all x = ticks_columns all x.ticks (decimal x.entered) ++ path_of x.proc ++ codes "\n"

abbrev pub more_text : ℕ → List ℕ
more_text n = if n == 1 then codes "and 1 more procedure\n" else codes "and " ++ decimal n ++ codes " more procedures\n"

abbrev pub more_row : ℕ → ℕ → ℕ → List ℕ
more_row all ticks count = ticks_columns all ticks [] ++ more_text count

-- the rows that aren't shown
abbrev pub more_line : ℕ → List Row → List ℕ
more_line all [] = []
more_line all (x ∷ xs) = more_row all (sum_by (λ y. y.ticks) (x ∷ xs)) (length (x ∷ xs))

-- ticks that no procedure has
abbrev pub other_line : ℕ → ℕ → List ℕ → List ℕ
other_line all ticks name = if ticks == 0 then [] else ticks_columns all ticks [] ++ name ++ codes "\n"

abbrev pub table_rows : ℕ → ℕ → List Row → List ℕ
table_rows all top rows = flat_map (row_line all) (take top rows) ++ more_line all (drop top rows)

-- The first procedures by descending ticks, how many more there are, and the ticks that no procedure has.
abbrev pub profile_table : Image → List Proc → Profile → ℕ → List ℕ
profile_table image procs r top =
    total_line (ticks_of r) (length r.counts.ticks) r.untold ++ heading
    ++ table_rows (ticks_of r) top (rows_of image procs r)
    ++ other_line (ticks_of r) (ticks_of_none image procs r) (codes "in no procedure")
    ++ other_line (ticks_of r) (ticks_outside image r) (codes "outside of the text")
    ++ other_line (ticks_of r) r.untold (codes "untold")
