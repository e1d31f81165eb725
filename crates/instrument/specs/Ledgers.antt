-- The book with the memory that it has: for how many more rooms, and for how many more entries of the agenda.
use Rattle.std.specs.Prelude.{ℕ, max, []}
use Rattle.instrument.specs.Books.{Book}

pub record LedgerData : Type 0 where
  pub book : Book
  pub spare_rooms : ℕ
  pub spare_entries : ℕ

abbrev pub no_ledger : LedgerData
no_ledger = record { book = record { rooms = []; agenda = [] }; spare_rooms = 0; spare_entries = 0 }

-- there is room for at least these numbers of rooms and entries
abbrev pub with_spare : ℕ → ℕ → LedgerData → LedgerData
with_spare rooms entries l = record l { spare_rooms = max l.spare_rooms rooms; spare_entries = max l.spare_entries entries }
