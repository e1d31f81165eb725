-- A configuration that asks for metrics at foci.
use Rattle.std.specs.Prelude.{ℕ, Option, List, [], ◌++◌, codes, flat_map, map, take}
use Rattle.std.specs.Fmt.{decimal}
use Rattle.std.specs.Option.{option_map_or}
use Rattle.first_places.specs.Groups.{first_mentions}
use Rattle.report.specs.ShownTexts.{pair_text}

-- the metrics at a focus, and at all foci, one after another
abbrev pub pairs_at : List (List ℕ) → List ℕ → List (List ℕ)
pairs_at metrics focus = map (λ metric. pair_text metric focus) metrics

abbrev pub pairs : List (List ℕ) → List (List ℕ) → List (List ℕ)
pairs metrics foci = flat_map (pairs_at metrics) foci

-- a wish: from a tick on a pair is to be shown, or isn't any more
abbrev pub wish_line : ℕ → List ℕ → List ℕ → List ℕ
wish_line at verb pair = codes "at " ++ decimal at ++ verb ++ pair ++ codes ";\n"

abbrev pub show_lines : ℕ → List (List ℕ) → List ℕ
show_lines at pairs = flat_map (wish_line at (codes " show ")) pairs

abbrev pub drop_lines : ℕ → List (List ℕ) → List ℕ
drop_lines at pairs = flat_map (wish_line at (codes " drop ")) pairs

abbrev pub wishes : ℕ → Option ℕ → List (List ℕ) → List ℕ
wishes from until pairs = show_lines from pairs ++ option_map_or (λ at. drop_lines at pairs) until []

-- The shipped metrics, and wishes for the first so many distinct pairs of these metrics and foci, from a tick on, and up to one where
-- that is told.
abbrev pub ask_text : List (List ℕ) → List (List ℕ) → ℕ → ℕ → Option ℕ → List ℕ
ask_text metrics foci limit from until = codes "include metrics;\n" ++ wishes from until (take limit (first_mentions (pairs metrics foci)))
