-- For proofs alone: what is taken of a row of units, and the space that says which of them are free.
use Rattle.std.specs.Prelude.{◌≡◌, ℕ, ◌+◌, ◌-◌, ◌*◌, ◌/◌, ◌%◌, ◌<◌, ◌≤◌, ◌&&◌, not, nat_lt, if◌then◌else◌, Bool, true, Some, None, List, [], ◌∷◌, ◌++◌}
use Rattle.std.specs.List.{list_any}
use Rattle.pn_types.specs.declared.limits.TheConstants.{TOOL_TEXT_LEN}
use Rattle.pn_types.specs.declared.placed.Placed.{Placed}
use Rattle.rv_word.specs.Plain.{Words}
use Rattle.tramp_spec.specs.Banks.{bank_len, first_slot}
use Rattle.tramp_spec.specs.Codes.{tool_at}
use Rattle.tool_space.specs.Rooms.{Rooms, is_within, is_free}
use Rattle.machine.specs.Cores.{In}
use Rattle.instrument.specs.Admission.{slot_count, slots_from}
use Rattle.instrument.specs.Armable.{AreArmable}
use Rattle.instrument.specs.Fits.{room_for}
use Rattle.instrument.specs.Listed.{AreInOrder}
use Rattle.instrument.specs.declared.instrument.Instrument.{Instrument}
use Rattle.instrument.specs.declared.room.Room.{Room}

-- ---- any things that take units

-- a number of units from one on
pub record Span : Type 0 where
  pub at : ℕ
  pub len : ℕ

abbrev pub covers : {A : Type 0} → (A → Span) → ℕ → A → Bool
covers span unit x = is_within (span x).at (span x).len unit

-- no unit belongs to both
abbrev pub AreDistant : Span → Span → Type 0
AreDistant s t = (unit : ℕ) → is_within s.at s.len unit ≡ true → is_within t.at t.len unit ≡ true → ⊥

abbrev pub AllDistant : {A : Type 0} → (A → Span) → List A → Type 0
AllDistant {A} span [] = Unit {0}
AllDistant {A} span (x ∷ xs) = ((y : A) → In y xs → AreDistant (span x) (span y)) × AllDistant span xs

-- how many of them have units to give back
abbrev pub owed : {A : Type 0} → (A → Span) → List A → ℕ
owed span [] = 0
owed span (x ∷ xs) = (if nat_lt 0 (span x).len then 1 else 0) + owed span xs

-- a unit of the row that none of these takes
abbrev pub is_left : {A : Type 0} → (A → Span) → ℕ → ℕ → List A → ℕ → Bool
is_left span from units xs unit = is_within from units unit && not (list_any (covers span unit) xs)

-- The space is that of the row's units, and free in it are those that none of these takes. They lie in the row, apart, and their
-- gives are reserved.
pub record IsSpaceOf {A : Type 0} (span : A → Span) (from units : ℕ) (space : Rooms) (xs : List A) : Type 0 where
  pub low : space.from ≡ from
  pub high : space.end ≡ from + units
  pub tied : (unit : ℕ) → is_free space unit ≡ is_left span from units xs unit
  pub apart : AllDistant span xs
  pub gives : owed span xs ≤ space.gives
  pub within : (x : A) → In x xs → (from ≤ (span x).at) × ((span x).at + (span x).len ≤ from + units)

-- ---- rooms, in words of the tool text

abbrev pub words_of_room : Room → Span
words_of_room x = record { at = x.at / 4; len = x.len }

-- a room has words, and begins at one
abbrev pub IsWhole : Room → Type 0
IsWhole x = (0 < x.len) × (x.at % 4 ≡ 0)

pub record AreRoomsOf (program : Words) (space : Rooms) (rooms : List Room) : Type 0 where
  pub taken : IsSpaceOf words_of_room (tool_at program / 4) (TOOL_TEXT_LEN / 4) space rooms
  pub whole : (x : Room) → In x rooms → IsWhole x

-- ---- instruments, in slots

abbrev pub first_or : ℕ → List ℕ → ℕ
first_or slot [] = slot
first_or slot (s ∷ slots) = s

abbrev pub slots_of_placed : Placed → Span
slots_of_placed p = record { at = first_or first_slot p.slots; len = slot_count p.vars }

abbrev pub slots_of : Instrument → Span
slots_of i = slots_of_placed i.placed

-- the slots follow each other
abbrev pub IsRow : Instrument → Type 0
IsRow i = i.placed.slots ≡ slots_from (first_or first_slot i.placed.slots) i.placed.vars

pub record AreSlotsOf (space : Rooms) (instruments : List Instrument) : Type 0 where
  pub taken : IsSpaceOf slots_of first_slot (bank_len - first_slot) space instruments
  pub rows : (i : Instrument) → In i instruments → IsRow i

-- ---- the parts of a placer

-- The space is that of the instruments' slots, the instruments are in order and can be armed, and there is memory for `room` more.
pub record IsRoster (space : Rooms) (instruments : List Instrument) (len capacity room : ℕ) : Type 0 where
  pub slots : AreSlotsOf space instruments
  pub order : AreInOrder instruments
  pub armable : AreArmable instruments
  pub memory : len + room ≤ capacity

-- no word belongs to two rooms, and each room is whole
pub record AreDistinct (rooms : List Room) : Type 0 where
  pub apart : AllDistant words_of_room rooms
  pub whole : (x : Room) → In x rooms → IsWhole x

-- the lowest room of a length was taken, by its address
pub record IsRoomTaken (before after : Rooms) (at len : ℕ) : Type 0 where
  pub found : (program : Words) (rooms : List Room) → AreRoomsOf program before rooms → room_for program rooms len ≡ Some at
  pub kept : (program : Words) (rooms : List Room)
      → AreRoomsOf program before rooms → (x : Room) → x.at ≡ at → x.len ≡ len → AreRoomsOf program after (rooms ++ x ∷ [])
  pub aligned : at % 4 ≡ 0
  pub high : at + 4 * len ≤ 4 * before.end
  pub takes : after.takes + 1 ≡ before.takes
  pub end : after.end ≡ before.end

-- there is no room of a length
abbrev pub HasNoRoom : Rooms → ℕ → Type 0
HasNoRoom space len = (program : Words) (rooms : List Room) → AreRoomsOf program space rooms → room_for program rooms len ≡ None
