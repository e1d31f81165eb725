-- The program, the book, and the memory that the book has: for how many more rooms, how many takes of words, and how many more
-- entries of the agenda beside those that the dropping of each site needs.
use Rattle.std.specs.Prelude.{◌≡◌, ◌++◌, ℕ, ◌+◌, ◌-◌, ◌*◌, ◌≤◌, ◌&&◌, not, if◌then◌else◌, Bool, List, [], ◌∷◌}
use Rattle.pn_types.specs.declared.image.Image.{Image}
use Rattle.rv_mem.specs.Start.{program_of}
use Rattle.rv_word.specs.Plain.{Words}
use Rattle.tool_space.specs.Rooms.{Rooms}
use Rattle.instrument.specs.Books.{Book, is_held}
use Rattle.instrument.specs.Ledgers.{LedgerData}
use Rattle.instrument.specs.Spaces.{AreRoomsOf}
use Rattle.instrument.specs.declared.entry.Entry.{Entry}
use Rattle.instrument.specs.declared.room.Room.{Room}

pub record ToolTextData : Type 0 where
  pub program : Words
  pub book : Book
  pub spare_rooms : ℕ
  pub takes : ℕ
  pub entries : ℕ

abbrev pub no_blocks : Image → ToolTextData
no_blocks image = record { program = program_of image; book = record { rooms = []; agenda = [] }; spare_rooms = 0; takes = 0; entries = 0 }

-- the mini block of a site that wasn't dropped
abbrev pub is_held_mini : Room → Bool
is_held_mini x = not x.base && is_held x.hold

abbrev pub held_minis : List Room → ℕ
held_minis [] = 0
held_minis (x ∷ rooms) = (if is_held_mini x then 1 else 0) + held_minis rooms

-- the dropping of a site puts three entries into the agenda at most
abbrev pub for_drops : List Room → ℕ
for_drops rooms = 3 * held_minis rooms

abbrev pub text_data : Words → LedgerData → Rooms → ToolTextData
text_data program l words = record {
  program = program;
  book = l.book;
  spare_rooms = l.spare_rooms;
  takes = words.takes;
  entries = l.spare_entries - for_drops l.book.rooms;
}

pub record IsToolText (program : Words) (l : LedgerData) (words : Rooms) : Type 0 where
  pub rooms : AreRoomsOf program words l.book.rooms
  pub entries : for_drops l.book.rooms ≤ l.spare_entries

-- the new book is the old one with more at its end
pub record IsGrown (before after : Book) : Type 0 where
  pub more_rooms : List Room
  pub more_entries : List Entry
  pub rooms : after.rooms ≡ before.rooms ++ more_rooms
  pub agenda : after.agenda ≡ before.agenda ++ more_entries
