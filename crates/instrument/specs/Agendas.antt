-- The agenda with the room that it has: for how many more entries there is memory.
use Rattle.std.specs.Prelude.{◌≡◌, ℕ, ◌+◌, ◌-◌, max, if◌then◌else◌, Option, Some, None, List, [], ◌∷◌, ◌++◌, remove}
use Rattle.std.specs.List.{list_any}
use Rattle.instrument.specs.Books.{FoundFree, unlinks, freed_point, first_free}
use Rattle.instrument.specs.declared.entry.Entry.{Entry}

pub record AgendaData : Type 0 where
  pub entries : List Entry
  pub room : ℕ

abbrev pub no_entries : AgendaData
no_entries = record { entries = []; room = 0 }

-- there is room for at least `count` more entries
abbrev pub with_room : ℕ → AgendaData → AgendaData
with_room count a = record a { room = max a.room count }

abbrev pub with_entry : Entry → AgendaData → AgendaData
with_entry e a = record { entries = a.entries ++ e ∷ []; room = a.room - 1 }

-- an entry that is taken out leaves room for another
abbrev pub without_first_of : List Entry → AgendaData → AgendaData
without_first_of [] a = a
without_first_of (e ∷ es) a = record { entries = es; room = a.room + 1 }

abbrev pub without_first : AgendaData → AgendaData
without_first a = without_first_of a.entries a

abbrev pub without_found : Option FoundFree → AgendaData → AgendaData
without_found None a = a
without_found (Some f) a = record { entries = f.rest; room = a.room + 1 }

abbrev pub without_free : AgendaData → AgendaData
without_free a = without_found (first_free [] a.entries) a

-- ---- the search for a Free

-- the point of the entry, if it is a Free and none before it unlinks the point
abbrev pub free_point : Option ℕ → List Entry → Option ℕ
free_point None before = None
free_point (Some p) before = if list_any (unlinks p) before then None else Some p

abbrev pub free_entry : Option Entry → List Entry → Option ℕ
free_entry None before = None
free_entry (Some e) before = free_point (freed_point e) before

-- the Free at a place of the agenda, with what is left without it
abbrev pub IsFoundAt : List Entry → ℕ → ℕ → Type 0
IsFoundAt entries place point = first_free [] entries ≡ Some (record { point = point; rest = remove entries place })
