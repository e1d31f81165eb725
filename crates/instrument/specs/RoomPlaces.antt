-- For proofs alone: the rooms by place, and the buckets in which they are looked up.
use Rattle.std.specs.Prelude.{◌≡◌, ℕ, ◌+◌, ◌≤◌, if◌then◌else◌, Option, Some, None, List, [], false, length, slice_index_or, take}
use Rattle.std.specs.Option.{option_map}
use Rattle.bucket_chains.specs.Entries.{Entries, bucket_of}
use Rattle.bucket_chains.specs.Left.{present_entries, buckets_of}
use Rattle.instrument.specs.Books.{stays}
use Rattle.instrument.specs.Freed.{AllStay}
use Rattle.instrument.specs.declared.room.Room.{Room}

-- ---- by what a room is looked up

abbrev pub point_key : Room → ℕ
point_key x = x.point

abbrev pub at_key : Room → ℕ
at_key x = x.at

-- the number of its instrument. A base block's room is no instrument's, and may be in any bucket
abbrev pub owner_key : Room → ℕ
owner_key x = if x.base then x.at else x.owner

abbrev pub bucket_by : (Room → ℕ) → Option Room → Option ℕ
bucket_by key place = option_map (λ x. bucket_of (key x)) place

-- the buckets of all places, and for how many more there is room
pub record RoomEntries : Type 0 where
  pub points : List (Option ℕ)
  pub addresses : List (Option ℕ)
  pub owners : List (Option ℕ)
  pub room : ℕ

abbrev pub no_entries : RoomEntries
no_entries = record { points = []; addresses = []; owners = []; room = 0 }

-- the lists are as long as each other, and have the room
pub record AreEntries (points addresses owners : Entries) : Type 0 where
  pub address_places : length addresses.buckets ≡ length points.buckets
  pub owner_places : length owners.buckets ≡ length points.buckets
  pub address_room : points.room ≤ addresses.room
  pub owner_room : points.room ≤ owners.room

-- ---- the rooms

-- what each place has, in the order of taking: none where a room was given back; and for how many more rooms there is memory
pub record RoomPlaces : Type 0 where
  pub places : List (Option Room)
  pub spare : ℕ

abbrev pub no_rooms : RoomPlaces
no_rooms = record { places = []; spare = 0 }

-- the entries are those of the places
pub record AreIndexed (places : List (Option Room)) (index : RoomEntries) : Type 0 where
  pub points : index.points ≡ buckets_of point_key places
  pub addresses : index.addresses ≡ buckets_of at_key places
  pub owners : index.owners ≡ buckets_of owner_key places

pub record AreRooms (places : List (Option Room)) (index : RoomEntries) (len capacity count spare : ℕ) : Type 0 where
  pub indexed : AreIndexed places index
  pub counted : count ≡ length (present_entries places)
  pub memory : len + spare ≤ capacity
  pub room : spare ≤ index.room

-- at the place stands the first room that goes where the point is freed
pub record IsFirstToGo (point : ℕ) (places : List (Option Room)) (place : ℕ) : Type 0 where
  pub room : Room
  pub at : slice_index_or places place None ≡ Some room
  pub leaves : stays point room ≡ false
  pub first : AllStay point (present_entries (take place places))
