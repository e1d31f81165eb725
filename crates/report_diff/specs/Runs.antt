-- The ticks of two runs, how their harts ended, and what their programs wrote.
use Rattle.std.specs.Prelude.{ℕ, ◌+◌, ◌==◌, ◌&&◌, ◌||◌, nat_lt, if◌then◌else◌, bytes_eq, Bool, List, [], ◌∷◌, ◌++◌, codes, length, slice_get, sum_by}
use Rattle.std.specs.Fmt.{decimal}
use Rattle.std.specs.Option.{option_map_or}
use Rattle.pn_text.specs.Lines.{is_none}
use Rattle.pn_types.specs.Texts.{stop_text}
use Rattle.report.specs.declared.parts.HartPart.{HartPart}
use Rattle.report.specs.declared.parts.ReportParts.{ReportParts}
use Rattle.report_view.specs.Harts.{amount_text}
use Rattle.report_diff.specs.Numbers.{columns_heading, numbers_row}

-- ---- harts

-- lines on the harts from number n on that stand in both
abbrev pub harts_in_both : (ℕ → HartPart → HartPart → List ℕ) → List HartPart → ℕ → List HartPart → List ℕ
harts_in_both line news n [] = []
harts_in_both line news n (old ∷ olds) = option_map_or (line n old) (slice_get news n) [] ++ harts_in_both line news (n + 1) olds

abbrev pub hart_label : ℕ → List ℕ
hart_label n = codes "hart " ++ decimal n

-- the ticks of a hart, where they differ
unfoldable pub hart_ticks_row : ℕ → HartPart → HartPart → List ℕ
hart_ticks_row n old new = if old.ticks == new.ticks then [] else numbers_row old.ticks new.ticks (hart_label n)

abbrev pub hart_rows : List HartPart → List HartPart → List ℕ
hart_rows olds news = harts_in_both hart_ticks_row news 0 olds

abbrev pub all_ticks : List HartPart → ℕ
all_ticks harts = sum_by (λ part. part.ticks) harts

abbrev pub are_several : List HartPart → List HartPart → Bool
are_several olds news = nat_lt 1 (length olds) || nat_lt 1 (length news)

-- the ticks of all harts together, and of each hart whose ticks differ, where there are several
unfoldable pub ticks_table : List HartPart → List HartPart → List ℕ → List ℕ
ticks_table olds news rows =
    if (all_ticks olds == all_ticks news) && is_none rows then []
    else columns_heading (codes "ticks") ++ numbers_row (all_ticks olds) (all_ticks news) (codes "all harts")
    ++ (if are_several olds news then rows else [])

-- they ended in the same way
abbrev pub has_same_end : HartPart → HartPart → Bool
has_same_end old new = bytes_eq (stop_text old.stop) (stop_text new.stop)

-- how a hart ended, where that differs
unfoldable pub hart_end_line : ℕ → HartPart → HartPart → List ℕ
hart_end_line n old new =
    if has_same_end old new then []
    else codes "hart " ++ decimal n ++ codes ": " ++ stop_text old.stop ++ codes " -> " ++ stop_text new.stop ++ codes "\n"

-- what a line on something begins with that stands in one report alone
abbrev pub only_in : List ℕ → List ℕ
only_in report = codes "only in " ++ report ++ codes ": "

unfoldable pub lone_hart_line : List ℕ → ℕ → HartPart → List ℕ
lone_hart_line report n part =
    only_in report ++ codes "hart " ++ decimal n ++ codes ", " ++ decimal part.ticks ++ codes " ticks, " ++ stop_text part.stop ++ codes "\n"

-- the lines of the harts from number n on that stand behind so many others
abbrev pub lone_harts : List ℕ → ℕ → ℕ → List HartPart → List ℕ
lone_harts report others n [] = []
lone_harts report others n (part ∷ parts) = (if nat_lt n others then [] else lone_hart_line report n part) ++ lone_harts report others (n + 1) parts

unfoldable pub harts_diff : List HartPart → List HartPart → List ℕ
harts_diff olds news =
    ticks_table olds news (hart_rows olds news) ++ harts_in_both hart_end_line news 0 olds
    ++ lone_harts (codes "OLD") (length news) 0 olds ++ lone_harts (codes "NEW") (length olds) 0 news

-- ---- what the programs wrote

-- how many bytes at the front are the same
abbrev pub same_bytes : List ℕ → List ℕ → ℕ
same_bytes [] news = 0
same_bytes (old ∷ olds) [] = 0
same_bytes (old ∷ olds) (new ∷ news) = if old == new then same_bytes olds news + 1 else 0

abbrev pub bytes_text : ℕ → List ℕ
bytes_text n = amount_text n (codes "byte") (codes "bytes")

unfoldable pub output_diff : List ℕ → List ℕ → List ℕ
output_diff old new =
    if bytes_eq old new then []
    else codes "output: " ++ bytes_text (length old) ++ codes " -> " ++ bytes_text (length new) ++ codes ", different behind "
    ++ bytes_text (same_bytes old new) ++ codes "\n"
