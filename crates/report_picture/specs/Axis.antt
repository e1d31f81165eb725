-- The axis of time that all histograms share: it is 940 pixels wide, from x = 20 on.
use Rattle.std.specs.Prelude.{ℕ, ◌+◌, ◌*◌, ◌/◌, ◌==◌, nat_le, if◌then◌else◌, max, List, [], ◌∷◌, ◌++◌, codes, flat_map}
use Rattle.std.specs.Fmt.{decimal}
use Rattle.fold_hist.specs.declared.bin.Bin.{Bin}
use Rattle.report.specs.declared.parts.ShownPart.{ShownPart}
use Rattle.report_picture.specs.declared.axis.TheConstants.{MARK_STEPS}

-- the last tick at which a bin ends
abbrev pub end_of_bins : List Bin → ℕ
end_of_bins [] = 0
end_of_bins (bin ∷ bins) = max bin.to (end_of_bins bins)

abbrev pub end_of_shown : List ShownPart → ℕ
end_of_shown [] = 0
end_of_shown (s ∷ ss) = max (end_of_bins s.bins) (end_of_shown ss)

-- where a tick stands on an axis up to an end, in tenths of a pixel
unfoldable pub place : ℕ → ℕ → ℕ
place last tick = if last == 0 then 0 else tick * 9400 / last

-- ---- marks

-- the first of some steps of which ten reach the end, or 0
abbrev pub first_reaching : ℕ → List ℕ → ℕ
first_reaching last [] = 0
first_reaching last (step ∷ steps) = if nat_le last (step * 10) then step else first_reaching last steps

-- the least of 1, 2, 5, 10, 20, 50 and so on of which ten reach the end
unfoldable pub mark_step : ℕ → ℕ
mark_step last = first_reaching last MARK_STEPS

-- a line at x down to some height, and a tick above it
unfoldable pub mark_line : ℕ → ℕ → List ℕ
mark_line height x = codes "<path d=\"M" ++ decimal x ++ codes " 34V" ++ decimal height ++ codes "\" stroke=\"#ddd\"/>\n"

unfoldable pub mark_text : ℕ → ℕ → List ℕ
mark_text x tick =
    codes "<text x=\"" ++ decimal x ++ codes "\" y=\"30\" text-anchor=\"middle\" fill=\"#555\">" ++ decimal tick ++ codes "</text>\n"

abbrev pub mark : ℕ → ℕ → ℕ → List ℕ
mark height last tick = mark_line height (20 + place last tick / 10) ++ mark_text (20 + place last tick / 10) tick

abbrev pub mark_within : ℕ → ℕ → ℕ → ℕ → List ℕ
mark_within height last step k = if nat_le (step * k) last then mark height last (step * k) else []

unfoldable pub marks : ℕ → ℕ → List ℕ
marks height last =
    flat_map (mark_within height last (mark_step last)) (0 ∷ 1 ∷ 2 ∷ 3 ∷ 4 ∷ 5 ∷ 6 ∷ 7 ∷ 8 ∷ 9 ∷ 10 ∷ [])
