-- Where names stand first in a list of names.
use Rattle.std.specs.Prelude.{ℕ, Option, List, position}
use Rattle.std.specs.Str.{bytes_eq}

-- the first place at which the name stands
abbrev pub first_place : List ℕ → List (List ℕ) → Option ℕ
first_place name names = position (bytes_eq name) names
