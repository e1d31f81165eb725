-- Names that stand in two lists. Of a name that stands more than once in a list, the first counts.
use Rattle.std.specs.Prelude.{ℕ, ◌+◌, ◌==◌, if◌then◌else◌, Bool, false, Option, Some, None, List, [], ◌∷◌, ◌++◌, slice_get}
use Rattle.std.specs.Option.{option_map_or}
use Rattle.first_places.specs.Places.{first_place}
use Rattle.report_diff.specs.declared.matches.Match.{Match}

-- the name stands first at this place
abbrev pub is_first_at : List (List ℕ) → ℕ → List ℕ → Bool
is_first_at names place name = option_map_or (λ first. first == place) (first_place name names) false

abbrev pub match_at : List (List ℕ) → List (List ℕ) → ℕ → List ℕ → List Match
match_at names others place name =
    if is_first_at names place name then record { place = place; other = first_place name others } ∷ [] else []

-- the matches of names that are numbered from a place on
abbrev pub matches_from : List (List ℕ) → List (List ℕ) → ℕ → List (List ℕ) → List Match
matches_from names others place [] = []
matches_from names others place (name ∷ rest) = match_at names others place name ++ matches_from names others (place + 1) rest

-- each name where it stands first, with its first place among the others, if it stands there
unfoldable pub matches_of : List (List ℕ) → List (List ℕ) → List Match
matches_of names others = matches_from names others 0 names

-- ---- the things that have the names

-- a text on the things of a match, where it has both
abbrev pub both_text : {X : Type 0} → (X → X → List ℕ) → List X → List X → Match → List ℕ
both_text text olds news m = option_map_or (λ old. option_map_or (λ other. option_map_or (text old) (slice_get news other) []) m.other []) (slice_get olds m.place) []

-- a text on the thing of a match that has no other
abbrev pub alone_text : {X : Type 0} → (X → List ℕ) → List X → Match → List ℕ
alone_text text xs m = option_map_or (λ other. []) m.other (option_map_or text (slice_get xs m.place) [])
