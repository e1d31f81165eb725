-- What stands under a name.
use Rattle.std.specs.Prelude.{ℕ, Option, List, slice_get}
use Rattle.std.specs.Option.{option_and_then, option_map}
use Rattle.first_places.specs.Places.{first_place}

-- the value of the first thing of a name, if there is one
abbrev pub value_named : {X V : Type 0} → (X → V) → List (List ℕ) → List X → List ℕ → Option V
value_named value names xs name = option_map value (option_and_then (slice_get xs) (first_place name names))
