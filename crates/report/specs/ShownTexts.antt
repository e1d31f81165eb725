-- The lines of a report on what was shown, and on wishes that were refused.
use Rattle.std.specs.Prelude.{ℕ, ◌+◌, if◌then◌else◌, Option, Some, None, List, [], ◌∷◌, ◌++◌, codes, length}
use Rattle.std.specs.Fmt.{decimal}
use Rattle.fold_hist.specs.declared.bin.Bin.{Bin}
use Rattle.pn_types.specs.Texts.{cause_text}
use Rattle.report.specs.declared.parts.RefusedPart.{RefusedPart}
use Rattle.report.specs.declared.parts.ShownPart.{ShownPart}

-- the name of a metric or of a hypothesis, at a focus
abbrev pub pair_text : List ℕ → List ℕ → List ℕ
pair_text name focus = name ++ (codes " " ++ focus)

-- a wish, the time at which it was refused, and why
abbrev pub refused_line : RefusedPart → List ℕ
refused_line r =
    codes "refused " ++ ((if r.show then codes "show " else codes "drop ") ++ (pair_text r.metric r.focus
    ++ (codes " at " ++ (decimal r.at ++ (codes ": " ++ (cause_text r.cause ++ codes "\n"))))))

-- the time of the arming, if it was armed
abbrev pub from_text : Option ℕ → List ℕ
from_text None = codes "none"
from_text (Some from) = decimal from

-- what is shown in which units, from when on, in how many bins of how many samples
abbrev pub histogram_head : ℕ → ShownPart → List ℕ
histogram_head bins s =
    codes "histogram " ++ (pair_text s.metric s.focus ++ (codes " units " ++ (s.units ++ (codes " from " ++ (from_text s.from
    ++ (codes " bins " ++ (decimal bins ++ (codes " width " ++ (decimal s.width ++ codes "\n")))))))))

abbrev pub histogram_line : ShownPart → List ℕ
histogram_line s = histogram_head (length s.bins) s

-- a bin: its number, its interval and its value
abbrev pub bin_line : ℕ → Bin → List ℕ
bin_line n b =
    codes "bin " ++ (decimal n ++ (codes " from "
    ++ (decimal b.from ++ (codes " to "
    ++ (decimal b.to ++ (codes " value " ++ (decimal b.sum ++ codes "\n")))))))

-- the lines of bins that are numbered from n on
abbrev pub bin_lines : ℕ → List Bin → List ℕ
bin_lines n [] = []
bin_lines n (b ∷ bins) = bin_line n b ++ bin_lines (n + 1) bins

abbrev pub shown_lines : ShownPart → List ℕ
shown_lines s = histogram_line s ++ bin_lines 0 s.bins
