-- The text of a report: lines of decimal numbers, and addresses in hexadecimal.
use Rattle.std.specs.Prelude.{ℕ, ◌+◌, List, [], ◌∷◌, ◌++◌, length, codes, flat_map, sum_by}
use Rattle.std.specs.Fmt.{decimal}
use Rattle.std.specs.Option.{option_map_or}
use Rattle.pn_types.specs.Texts.{address, stop_text}
use Rattle.report.specs.declared.parts.HartPart.{HartPart}
use Rattle.report.specs.declared.parts.ReportParts.{ReportParts}
use Rattle.report.specs.SearchTexts.{search_lines}
use Rattle.report.specs.ShownTexts.{refused_line, shown_lines}

-- the numbers of the harts, of their ticks together, of the samples and of the function symbols that are no procedures
abbrev pub numbers_line : ℕ → ℕ → ℕ → ℕ → List ℕ
numbers_line harts ticks samples skipped =
    codes "harts " ++ decimal harts ++ codes " ticks " ++ decimal ticks
    ++ codes " samples " ++ decimal samples ++ codes " skipped " ++ decimal skipped ++ codes "\n"

abbrev pub counts_line : ReportParts → ℕ → List ℕ
counts_line parts skipped = numbers_line (length parts.harts) (sum_by (λ part. part.ticks) parts.harts) parts.samples skipped

-- the line of a hart: its number, its ticks, and how and where it ended
abbrev pub hart_line : ℕ → HartPart → List ℕ
hart_line n part =
    codes "hart " ++ decimal n ++ codes " ticks " ++ decimal part.ticks ++ codes " " ++ stop_text part.stop
    ++ codes " at " ++ address part.pc ++ codes "\n"

-- the lines of harts that are numbered from n on
abbrev pub hart_lines : ℕ → List HartPart → List ℕ
hart_lines n [] = []
hart_lines n (part ∷ parts) = hart_line n part ++ hart_lines (n + 1) parts

-- the length of the output, and then the output itself with a line's end
abbrev pub output_lines : List ℕ → List ℕ
output_lines output = codes "output " ++ decimal (length output) ++ codes "\n" ++ output ++ codes "\n"

-- The report of a run, after the name of the format; lines on the search stand only where there was one.
abbrev pub report_text : ReportParts → ℕ → List ℕ
report_text parts skipped =
    codes "paradyn report 1\n" ++ counts_line parts skipped ++ hart_lines 0 parts.harts ++ output_lines parts.output
    ++ flat_map refused_line parts.refused ++ flat_map shown_lines parts.shown
    ++ option_map_or search_lines parts.search []
