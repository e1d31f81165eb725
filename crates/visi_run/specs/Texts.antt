-- The text of the samples that each view was given.
use Rattle.std.specs.Prelude.{ℕ, ◌+◌, Option, Some, None, List, [], ◌∷◌, ◌++◌, codes, flat_map, length, slice_get}
use Rattle.std.specs.Fmt.{decimal}
use Rattle.session_spec.specs.declared.data.LatestSample.{LatestSample}
use Rattle.report.specs.declared.parts.ShownPart.{ShownPart}
use Rattle.report.specs.ShownTexts.{pair_text}

-- a sample: which metric at which focus, its interval and its value
abbrev pub line_at : ShownPart → LatestSample → List ℕ
line_at part x =
    codes "sample " ++ (pair_text part.metric part.focus
    ++ (codes " from " ++ (decimal x.from ++ (codes " to " ++ (decimal x.to ++ (codes " value " ++ (decimal x.sum ++ codes "\n")))))))

-- of what isn't shown there is none
abbrev pub line_by : Option ShownPart → LatestSample → List ℕ
line_by None x = []
line_by (Some part) x = line_at part x

-- the line of a sample, by the place of what it shows
abbrev pub sample_line : List ShownPart → LatestSample → List ℕ
sample_line shown x = line_by (slice_get shown x.shown) x

-- a view: its number and its samples
abbrev pub view_text : List ShownPart → ℕ → List LatestSample → List ℕ
view_text shown n samples = codes "view " ++ (decimal n ++ (codes "\n" ++ flat_map (sample_line shown) samples))

-- views that are numbered from n on
abbrev pub view_texts : List ShownPart → ℕ → List (List LatestSample) → List ℕ
view_texts shown n [] = []
view_texts shown n (samples ∷ lists) = view_text shown n samples ++ view_texts shown (n + 1) lists

abbrev pub first_count : List (List LatestSample) → ℕ
first_count [] = 0
first_count (samples ∷ lists) = length samples

-- the numbers of the views and of the samples, of which each view has as many
abbrev pub views_line : List (List LatestSample) → List ℕ
views_line lists = codes "views " ++ (decimal (length lists) ++ (codes " samples " ++ (decimal (first_count lists) ++ codes "\n")))

-- The whole text, after the name of the format.
abbrev pub visi_text : List ShownPart → List (List LatestSample) → List ℕ
visi_text shown lists = codes "paradyn visi 1\n" ++ (views_line lists ++ view_texts shown 0 lists)
