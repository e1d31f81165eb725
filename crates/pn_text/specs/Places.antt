-- Places in a text.
use Rattle.std.specs.Prelude.{ℕ, ◌+◌, ◌≤◌, ◌==◌, if◌then◌else◌, List, [], ◌∷◌}
use Rattle.pn_text.specs.declared.place.Place.{Place}

-- the place of a text's first byte
abbrev pub first_place : Place
first_place = record { at = 0; line = 1; col = 1 }

-- the place after a byte: an LF begins a line
abbrev pub behind_byte : Place → ℕ → Place
behind_byte place byte = record {
  at = place.at + 1;
  line = if byte == 10 then place.line + 1 else place.line;
  col = if byte == 10 then 1 else place.col + 1;
}

-- the place after bytes
abbrev pub after_bytes : Place → List ℕ → Place
after_bytes place [] = place
after_bytes place (byte ∷ bytes) = after_bytes (behind_byte place byte) bytes

-- line and column are no further than the bytes before a place allow
pub record IsPlaceWithin (place : Place) : Type 0 where
  pub line : place.line ≤ place.at + 1
  pub col : place.col ≤ place.at + 1
