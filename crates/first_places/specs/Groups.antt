-- The distinct names of a list of names, and all places of each.
use Rattle.std.specs.Prelude.{ℕ, not, Bool, false, List, [], ◌∷◌, length, slice_get}
use Rattle.std.specs.List.{filter, range_with_len}
use Rattle.std.specs.Option.{option_map_or}
use Rattle.std.specs.Str.{bytes_eq}

-- of things with names the first of each name, in their order
abbrev pub firsts : {X : Type 0} → (X → List ℕ) → List X → List X
firsts name_of [] = []
firsts name_of (x ∷ xs) = x ∷ filter (λ y. not (bytes_eq (name_of x) (name_of y))) (firsts name_of xs)

-- the distinct names, in the order of their first mentions
abbrev pub first_mentions : List (List ℕ) → List (List ℕ)
first_mentions names = firsts (λ name. name) names

-- the name stands at place k
abbrev pub stands_at : List ℕ → List (List ℕ) → ℕ → Bool
stands_at name names k = option_map_or (bytes_eq name) (slice_get names k) false

-- the places at which the name stands, ascending
abbrev pub places_of : List ℕ → List (List ℕ) → List ℕ
places_of name names = filter (stands_at name names) (range_with_len 0 (length names))
