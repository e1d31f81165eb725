-- Histograms: a metric that was shown once has a picture, one that was shown at more foci a table.
use Rattle.std.specs.Prelude.{ℕ, ◌-◌, ◌==◌, if◌then◌else◌, bytes_eq, is_some, Bool, List, [], ◌∷◌, ◌++◌, codes, filter, flat_map, length, max}
use Rattle.std.specs.Fmt.{decimal}
use Rattle.fold_hist.specs.Bins.{first_from, last_to}
use Rattle.first_places.specs.Places.{first_place}
use Rattle.report.specs.ShownTexts.{refused_line}
use Rattle.report.specs.declared.parts.ReportParts.{ReportParts}
use Rattle.report.specs.declared.parts.ShownPart.{ShownPart}
use Rattle.report_view.specs.Bars.{bars_in, bin_values}
use Rattle.report_view.specs.Foci.{short_focus}
use Rattle.report_view.specs.Harts.{amount_text, aligned}
use Rattle.report_view.specs.Signed.{greatest, least, quotient_text, signed_number, sum_of}

-- ---- one histogram

unfoldable pub interval_text : ShownPart → List ℕ
interval_text s =
    amount_text (length s.bins) (codes "bin") (codes "bins") ++ codes " of " ++ amount_text s.width (codes "sample") (codes "samples")
    ++ codes " from " ++ decimal (first_from s.bins) ++ codes " to " ++ decimal (last_to s.bins)

unfoldable pub sums_text : List ℕ → List ℕ
sums_text values =
    codes "sum " ++ signed_number (sum_of values) ++ codes ", least " ++ signed_number (least values)
    ++ codes ", mean " ++ quotient_text (sum_of values) (length values) ++ codes ", greatest " ++ signed_number (greatest values)

-- its bars within margins
unfoldable pub framed : Bool → ℕ → ShownPart → List ℕ
framed ascii columns s = codes "  |" ++ bars_in ascii (max 1 (columns - 4)) s.bins ++ codes "|\n"

-- these, its interval, and its sums
abbrev pub picture : Bool → ℕ → ShownPart → List ℕ
picture ascii columns s =
    framed ascii columns s ++ codes "  " ++ interval_text s ++ codes "\n  " ++ sums_text (bin_values s.bins) ++ codes "\n"

unfoldable pub picture_or_none : Bool → ℕ → ShownPart → List ℕ
picture_or_none ascii columns s = if length s.bins == 0 then codes "  its instrument was never armed\n" else picture ascii columns s

-- the metric and its units
unfoldable pub name_text : ShownPart → List ℕ
name_text s = codes "\n" ++ s.metric ++ codes " in " ++ s.units

unfoldable pub single : Bool → ℕ → ShownPart → List ℕ
single ascii columns s =
    name_text s ++ codes ", " ++ short_focus s.focus ++ codes "\n" ++ picture_or_none ascii columns s

-- ---- a table

unfoldable pub table_heading : ShownPart → List ℕ
table_heading s = name_text s ++ codes "\n" ++ aligned 16 (codes "sum") ++ aligned 16 (codes "greatest bin") ++ codes "\n"

-- the sum, and the greatest bin
unfoldable pub columns_text : ShownPart → List ℕ
columns_text s = aligned 16 (signed_number (sum_of (bin_values s.bins))) ++ aligned 16 (signed_number (greatest (bin_values s.bins)))

-- its bars within margins, or that there are none
unfoldable pub small_bars : Bool → ShownPart → List ℕ
small_bars ascii s = if length s.bins == 0 then codes "  never armed  " else codes "  |" ++ bars_in ascii 16 s.bins ++ codes "|  "

-- these, bars, and the focus
unfoldable pub histogram_row : Bool → ShownPart → List ℕ
histogram_row ascii s = columns_text s ++ small_bars ascii s ++ short_focus s.focus ++ codes "\n"

abbrev pub histogram_table : Bool → List ShownPart → List ℕ
histogram_table ascii [] = []
histogram_table ascii (s ∷ ss) = table_heading s ++ flat_map (histogram_row ascii) (s ∷ ss)

-- ---- all

-- those of one metric
abbrev pub of_metric : List ℕ → List ShownPart → List ShownPart
of_metric name shown = filter (λ s. bytes_eq name s.metric) shown

abbrev pub single_or_table : Bool → ℕ → List ShownPart → List ℕ
single_or_table ascii columns (s ∷ []) = single ascii columns s
single_or_table ascii columns ss = histogram_table ascii ss

-- each metric where it is first shown, with all its histograms
abbrev pub metrics_from : Bool → ℕ → List ShownPart → List (List ℕ) → List ShownPart → List ℕ
metrics_from ascii columns shown before [] = []
metrics_from ascii columns shown before (s ∷ ss) =
    (if is_some (first_place s.metric before) then [] else single_or_table ascii columns (of_metric s.metric shown))
    ++ metrics_from ascii columns shown (before ++ s.metric ∷ []) ss

-- the wishes that were refused, as the report has them, and what was shown
abbrev pub histograms_view : Bool → ℕ → ReportParts → List ℕ
histograms_view ascii columns parts =
    flat_map refused_line parts.refused ++ metrics_from ascii columns parts.shown [] parts.shown
