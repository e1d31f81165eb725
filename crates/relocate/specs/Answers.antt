-- What the calls return, by the definitions.
use Rattle.std.specs.Prelude.{◌≡◌, Option, Some, None, Result, Ok, Err, List}
use Rattle.tramp_spec.specs.declared.mark.MarkedWord.{MarkedWord}
use Rattle.relocate.specs.declared.moving.Unmovable.{Unmovable}

-- the moved words, and the refusal where there are none
abbrev pub IsMoved : Result (List MarkedWord) Unmovable → Option (List MarkedWord) → Type 0
IsMoved (Ok moved) (Some words) = moved ≡ words
IsMoved (Err e) None = Unit {0}
IsMoved (Ok moved) None = ⊥
IsMoved (Err e) (Some words) = ⊥
