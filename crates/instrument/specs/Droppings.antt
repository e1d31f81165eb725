-- For proofs alone: what the dropping of a site makes of the rooms by place.
use Rattle.std.specs.Prelude.{ℕ, Option, Some, None, List, map, find}
use Rattle.std.specs.Option.{option_map}
use Rattle.bucket_chains.specs.Left.{present_entries}
use Rattle.instrument.specs.Books.{Book, base_leaves, is_mini_of, mini_leaves, with_hold}
use Rattle.instrument.specs.Agendas.{AgendaData}
use Rattle.instrument.specs.RoomPlaces.{RoomPlaces}
use Rattle.instrument.specs.declared.room.Room.{Room}

-- the base block leaves with the last mini block of its point
abbrev pub places_left : Option Room → ℕ → List (Option Room) → List (Option Room)
places_left (Some other) p places = places
places_left None p places = map (option_map (with_hold (base_leaves p))) places

abbrev pub places_removed : ℕ → List (Option Room) → List (Option Room)
places_removed p places = places_left (find (is_mini_of p) (present_entries places)) p places

abbrev pub places_without : Room → List (Option Room) → List (Option Room)
places_without x places = places_removed x.point (map (option_map (with_hold (mini_leaves x.at))) places)

-- the book of rooms and entries
abbrev pub book_of : RoomPlaces → AgendaData → Book
book_of rooms agenda = record { rooms = present_entries rooms.places; agenda = agenda.entries }
