-- Histograms: the sums over their bins.
use Rattle.std.specs.Prelude.{ℕ, ◌==◌, ◌&&◌, if◌then◌else◌, Bool, false, List, [], ◌++◌, codes, flat_map, map, slice_get}
use Rattle.std.specs.List.{count_by}
use Rattle.std.specs.Option.{option_map_or}
use Rattle.pn_text.specs.Lines.{is_none}
use Rattle.report.specs.ShownTexts.{pair_text}
use Rattle.report.specs.declared.parts.ShownPart.{ShownPart}
use Rattle.report_view.specs.Bars.{bin_values}
use Rattle.report_view.specs.Harts.{amount_text}
use Rattle.report_view.specs.Signed.{sum_of}
use Rattle.report_diff.specs.Labels.{label_at}
use Rattle.report_diff.specs.Matches.{alone_text, both_text, matches_of}
use Rattle.report_diff.specs.Numbers.{columns_heading, values_row}
use Rattle.report_diff.specs.Runs.{only_in}
use Rattle.report_diff.specs.declared.matches.Match.{Match}

-- a histogram is matched by its metric and its focus
abbrev pub shown_names : List ShownPart → List (List ℕ)
shown_names parts = map (λ part. pair_text part.metric part.focus) parts

abbrev pub bins_sum : ShownPart → ℕ
bins_sum part = sum_of (bin_values part.bins)

-- the sums of a histogram, where they differ
unfoldable pub sums_row : ShownPart → ShownPart → List ℕ
sums_row old new = if bins_sum old == bins_sum new then [] else values_row (bins_sum old) (bins_sum new) (label_at old.metric old.focus)

abbrev pub sums_rows : List ShownPart → List ShownPart → List Match → List ℕ
sums_rows olds news ms = flat_map (both_text sums_row olds news) ms

-- the histogram of a match has the same sum in both
abbrev pub is_same_sum : List ShownPart → List ShownPart → Match → Bool
is_same_sum olds news m =
    option_map_or (λ old. option_map_or (λ other. option_map_or (λ new. bins_sum old == bins_sum new) (slice_get news other) false) m.other false)
    (slice_get olds m.place) false

unfoldable pub same_sums_line : ℕ → List ℕ
same_sums_line n =
    if n == 0 then [] else codes "same sum: " ++ amount_text n (codes "pair") (codes "pairs") ++ codes "\n"

unfoldable pub lone_histogram : List ℕ → ShownPart → List ℕ
lone_histogram report part = only_in report ++ label_at part.metric part.focus ++ codes "\n"

abbrev pub lone_histograms : List ℕ → List ShownPart → List Match → List ℕ
lone_histograms report parts ms = flat_map (alone_text (lone_histogram report) parts) ms

-- a table of the rows, if there are any
abbrev pub sums_table : List ℕ → List ℕ
sums_table rows = if is_none rows then [] else columns_heading (codes "metric, focus") ++ rows

-- the rows, how many sums are the same, and the histograms that stand in one report alone; nothing where nothing differs
unfoldable pub sums_section : List ℕ → ℕ → List ℕ → List ℕ → List ℕ
sums_section rows same gone added =
    if is_none rows && (is_none gone && is_none added) then [] else sums_table rows ++ same_sums_line same ++ gone ++ added

unfoldable pub histograms_diff : List ShownPart → List ShownPart → List ℕ
histograms_diff olds news =
    sums_section (sums_rows olds news (matches_of (shown_names olds) (shown_names news)))
    (count_by (is_same_sum olds news) (matches_of (shown_names olds) (shown_names news)))
    (lone_histograms (codes "OLD") olds (matches_of (shown_names olds) (shown_names news)))
    (lone_histograms (codes "NEW") news (matches_of (shown_names news) (shown_names olds)))
