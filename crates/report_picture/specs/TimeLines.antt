-- The time lines of all histograms, one row for each, over one axis.
use Rattle.std.specs.Prelude.{ℕ, ◌+◌, ◌-◌, ◌*◌, ◌/◌, ◌==◌, if◌then◌else◌, List, [], ◌∷◌, ◌++◌, codes, flat_map, length}
use Rattle.std.specs.Fmt.{decimal}
use Rattle.fold_hist.specs.Bins.{Histogram}
use Rattle.fold_hist.specs.declared.bin.Bin.{Bin}
use Rattle.report.specs.declared.parts.ShownPart.{ShownPart}
use Rattle.report_view.specs.Bars.{bin_values, positive}
use Rattle.report_view.specs.Signed.{greatest, is_negative}
use Rattle.report_picture.specs.Axis.{end_of_shown, marks, place}
use Rattle.report_picture.specs.Escapes.{clipped, escaped, escaped_pair}
use Rattle.report_picture.specs.Labels.{histogram_name, histogram_sums, steps_of}

-- ---- steps

-- the height of a value: the greatest number of 400ths of the greatest value that isn't above it
unfoldable pub step_height : ℕ → ℕ → ℕ
step_height most value = if most == 0 then 0 else value * 400 / most

-- how far down a step reaches, where the greatest value is at 0 and the zero line at 400; a negative one hangs below that line
unfoldable pub step_top : ℕ → ℕ → ℕ
step_top most value = if is_negative value then 430 else 400 - step_height most value

-- from the zero line to there, along its ticks, and back
unfoldable pub step : ℕ → ℕ → Bin → List ℕ
step last most bin =
    codes "M" ++ decimal (place last bin.from) ++ codes " 400V" ++ decimal (step_top most bin.sum) ++ codes "H" ++ decimal (place last bin.to)
    ++ codes "V400z"

abbrev pub steps : ℕ → List Bin → List ℕ
steps last bins = flat_map (step last (positive (greatest (bin_values bins)))) bins

-- ---- rows

-- its sums, and its step line in tenths of a pixel
unfoldable pub hist_line : ℕ → ShownPart → Histogram → List ℕ
hist_line last s hist =
    codes "<text y=\"28\" fill=\"#555\">" ++ histogram_sums hist.width s
    ++ codes "</text>\n<path transform=\"translate(0 34) scale(.1)\" fill=\"#2563a8\" d=\"" ++ steps last hist.bins
    ++ codes "\"/>\n<path d=\"M0 74.5H940\" stroke=\"#888\"/>\n"

unfoldable pub line_of_steps : ℕ → ShownPart → List ℕ
line_of_steps last s = hist_line last s (steps_of s)

unfoldable pub line_or_none : ℕ → ShownPart → List ℕ
line_or_none last s =
    if length s.bins == 0 then codes "<text y=\"28\" fill=\"#555\">its instrument was never armed</text>\n" else line_of_steps last s

-- its metric and the whole focus where it is pointed at, its name, and its line
unfoldable pub time_line : ℕ → ℕ → ShownPart → List ℕ
time_line last n s =
    codes "<g transform=\"translate(20 " ++ decimal (n * 84 + 40) ++ codes ")\"><title>" ++ escaped_pair s.metric s.focus
    ++ codes "</title>\n<rect width=\"940\" height=\"80\" fill=\"none\" pointer-events=\"all\"/>\n<text y=\"14\" font-weight=\"bold\">"
    ++ escaped (clipped (histogram_name s)) ++ codes "</text>\n" ++ line_or_none last s ++ codes "</g>\n"

abbrev pub time_lines_from : ℕ → ℕ → List ShownPart → List ℕ
time_lines_from last n [] = []
time_lines_from last n (s ∷ ss) = time_line last n s ++ time_lines_from last (n + 1) ss

abbrev pub time_lines_height : List ShownPart → ℕ
time_lines_height shown = length shown * 84 + 40

-- the axis up to an end, and all rows
unfoldable pub lines_to : ℕ → List ShownPart → List ℕ
lines_to last shown =
    codes "<text x=\"20\" y=\"14\" fill=\"#555\">time in ticks</text>\n" ++ marks (time_lines_height shown) last
    ++ time_lines_from last 0 shown

-- up to the end of all, or nothing where there are none
unfoldable pub some_time_lines : List ShownPart → List ℕ
some_time_lines shown = lines_to (end_of_shown shown) shown

unfoldable pub time_lines : List ShownPart → List ℕ
time_lines shown = if length shown == 0 then [] else some_time_lines shown
