-- The placements with the memory that they have: how many entries of the agenda can be put in beside those that drops need, and the
-- needs of plans whose admissions take no more memory.
use Rattle.std.specs.Prelude.{◌≡◌, ℕ, ◌+◌, ◌-◌, ◌*◌, ◌<◌, ◌≤◌, ◌^◌, false, List, [], length}
use Rattle.machine.specs.Cores.{In}
use Rattle.pn_types.specs.declared.image.Image.{Image}
use Rattle.instrument.specs.Freed.{AreHere}
use Rattle.instrument.specs.Listed.{AreNumberedBelow}
use Rattle.instrument.specs.Needs.{Need, sites_in}
use Rattle.instrument.specs.Placements.{Placements, no_placements}
use Rattle.instrument.specs.Rosters.{RosterData}
use Rattle.instrument.specs.ToolTexts.{ToolTextData}
use Rattle.instrument.specs.declared.room.Room.{Room}

pub record PlacerData : Type 0 where
  pub placements : Placements
  pub entries : ℕ
  pub ready : List Need

abbrev pub new_placer : Image → ℕ → PlacerData
new_placer image limit = record { placements = no_placements image limit; entries = 0; ready = [] }

-- the entries beside those of what is ready
abbrev pub placer_data : ToolTextData → RosterData → ℕ → ℕ → List Need → PlacerData
placer_data text roster limit count ready = record {
  placements = record { program = text.program; limit = limit; book = text.book; instruments = roster.instruments; count = count };
  entries = text.entries - 7 * sites_in ready;
  ready = ready;
}

-- there is memory, and there are numbers, for the admission of `plans` plans that have `sites` sites together
pub record HasMemory (text : ToolTextData) (roster : RosterData) (count sites plans : ℕ) : Type 0 where
  pub rooms : 2 * sites ≤ text.spare_rooms
  pub takes : 2 * sites ≤ text.takes
  pub entries : 7 * sites ≤ text.entries
  pub instruments : plans ≤ roster.room
  pub slots : 2 * plans ≤ roster.takes
  pub numbers : count + plans < 2 ^ 64

-- each mini block is of an instrument that was admitted
abbrev pub AreAdmitted : ℕ → List Room → Type 0
AreAdmitted count rooms = (x : Room) → In x rooms → x.base ≡ false → x.owner < count

pub record IsPlacer (text : ToolTextData) (roster : RosterData) (count : ℕ) (ready : List Need) : Type 0 where
  pub memory : HasMemory text roster count (sites_in ready) (length ready)
  pub admitted : AreAdmitted count text.book.rooms
  pub listed : AreNumberedBelow count roster.instruments
  pub here : AreHere text.book.rooms roster.instruments
