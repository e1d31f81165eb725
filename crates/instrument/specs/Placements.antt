-- The instruments that aren't gone, their rooms and slots, and the agenda; and what each call makes of them.
use Rattle.std.specs.Prelude.{ℕ, ◌+◌, ◌==◌, ◌&&◌, ◌||◌, not, nat_le, nat_lt, if◌then◌else◌, Bool, true, false, Option, Some, None, Result, Ok, Err, List, [], ◌∷◌, ◌++◌, length, map, filter, find, flat_map}
use Rattle.std.specs.List.{list_any}
use Rattle.pn_types.specs.declared.image.Image.{Image}
use Rattle.pn_types.specs.declared.placed.PlacedSite.{PlacedSite}
use Rattle.pn_types.specs.declared.plan.Plan.{Plan}
use Rattle.rv_mem.specs.Start.{program_of}
use Rattle.rv_word.specs.Plain.{Words}
use Rattle.tramp_spec.specs.Slots.{VariableSlot, places_of}
use Rattle.instrument.specs.Admission.{slot_count, slots_from, with_sites}
use Rattle.prim_code.specs.Counts.{predicted}
use Rattle.instrument.specs.Books.{Book, is_held, without_site, rooms_behind, stays, FoundFree, first_free}
use Rattle.instrument.specs.Fits.{slots_for}
use Rattle.instrument.specs.declared.entry.Entry.{Entry}
use Rattle.instrument.specs.declared.entry.Entry.TheVariants.{Free}
use Rattle.instrument.specs.declared.instrument.Instrument.{Instrument}
use Rattle.instrument.specs.declared.number.Refused.{Refused}
use Rattle.instrument.specs.declared.number.Refused.TheVariants.{OverCost, TooMany, NoSlot}
use Rattle.instrument.specs.declared.number.State.{State}
use Rattle.instrument.specs.declared.number.State.TheVariants.{Placing, Armed, Leaving, Gone}
use Rattle.instrument.specs.declared.room.Room.{Room}

-- The program's words and the number of instruments that are allowed at once, neither of which changes; the book; the instruments
-- that aren't gone, by number; and how many were admitted so far.
pub record Placements : Type 0 where
  pub program : Words
  pub limit : ℕ
  pub book : Book
  pub instruments : List Instrument
  pub count : ℕ

-- ---- the beginning

abbrev pub no_placements : Image → ℕ → Placements
no_placements image limit = record {
  program = program_of image;
  limit = limit;
  book = record { rooms = []; agenda = [] };
  instruments = [];
  count = 0;
}

-- ---- instruments

abbrev pub is_leaving : State → Bool
is_leaving Placing = false
is_leaving Armed = false
is_leaving Leaving = true
is_leaving Gone = true

-- the mini block of an instrument
abbrev pub is_mini_room_of : ℕ → Room → Bool
is_mini_room_of n x = not x.base && (x.owner == n)

-- the same, and its unlinking wasn't asked for
abbrev pub is_site_of : ℕ → Room → Bool
is_site_of n x = not x.base && ((x.owner == n) && is_held x.hold)

-- the sites of an instrument, by its rooms
abbrev pub sites_of : ℕ → List Room → List PlacedSite
sites_of n rooms = map (λ x. record { at = x.point; mini = x.at }) (filter (is_mini_room_of n) rooms)

-- Its state: one that isn't among the instruments is gone.
abbrev pub state_in : Option Instrument → State
state_in None = Gone
state_in (Some i) = i.state

abbrev pub instrument_at : Placements → ℕ → Option Instrument
instrument_at p n = find (λ i. i.no == n) p.instruments

abbrev pub state_of : Placements → ℕ → State
state_of p n = state_in (instrument_at p n)

abbrev pub with_state : ℕ → State → Instrument → Instrument
with_state n state i = record i { state = if i.no == n then state else i.state }

-- an instrument that was dropped is gone once none of its mini blocks has a room: then its slots are free
abbrev pub is_here : List Room → Instrument → Bool
is_here rooms i = not (is_leaving i.state) || list_any (is_mini_room_of i.no) rooms

-- ---- admission

abbrev pub slots_taken : Placements → List VariableSlot
slots_taken p = flat_map (λ i. places_of i.placed) p.instruments

abbrev pub is_over : Option ℕ → ℕ → Bool
is_over None cost = false
is_over (Some limit) cost = nat_lt limit cost

-- the instrument with these slots, whose sites have their rooms in the book, and with the plan's Opens
abbrev pub with_instrument : Plan → ℕ → Result Book Refused → Placements → Result Placements Refused
with_instrument plan slot (Err refused) p = Err refused
with_instrument plan slot (Ok book) p =
    Ok (record p {
      book = book;
      instruments = p.instruments ++ record {
        no = p.count;
        placed = record { vars = plan.vars; slots = slots_from slot plan.vars; sites = sites_of p.count book.rooms; opens = plan.opens };
        state = Placing;
      } ∷ [];
      count = p.count + 1;
    })

abbrev pub with_slots : Option ℕ → Plan → Placements → Result Placements Refused
with_slots None plan p = Err (NoSlot (slot_count plan.vars))
with_slots (Some slot) plan p = with_instrument plan slot (with_sites p.program p.count (slots_from slot plan.vars) plan.sites p.book) p

-- The admission of a plan, under the search's limit of the cost if there is one: what it makes, or why it is refused.
abbrev pub admission : Placements → Plan → Option ℕ → Result Placements Refused
admission p plan cost =
    if is_over cost (predicted plan) then Err (OverCost (predicted plan))
    else if nat_le p.limit (length p.instruments) then Err TooMany
    else with_slots (slots_for (slots_taken p) (slot_count plan.vars)) plan p

abbrev pub or_same : Placements → Result Placements Refused → Placements
or_same p (Err refused) = p
or_same p (Ok after_admission) = after_admission

-- a refused admission changes nothing
abbrev pub after_admission : Plan → Option ℕ → Placements → Placements
after_admission plan cost p = or_same p (admission p plan cost)

-- ---- arming and dropping

abbrev pub with_armed : ℕ → Placements → Placements
with_armed n p = record p { instruments = map (with_state n Armed) p.instruments }

abbrev pub without_sites : List Room → Book → Book
without_sites [] book = book
without_sites (x ∷ rooms) book = without_sites rooms (without_site x book)

-- a book and the instruments that are still here with it
abbrev pub settled : Book → List Instrument → Placements → Placements
settled book instruments p = record p { book = book; instruments = filter (is_here book.rooms) instruments }

-- Its sites are dropped in the order of their placing.
abbrev pub dropped : ℕ → Placements → Placements
dropped n p = settled (without_sites (filter (is_site_of n) p.book.rooms) p.book) (map (with_state n Leaving) p.instruments) p

-- ---- the agenda

abbrev pub first_of : List Entry → Option Entry
first_of [] = None
first_of (e ∷ es) = Some e

abbrev pub book_after : List Entry → Book → Book
book_after [] book = book
book_after (e ∷ es) book = record { rooms = rooms_behind e book.rooms; agenda = es }

-- the entry that is handed out, and what is left
abbrev pub front : Placements → Option Entry
front p = first_of p.book.agenda

abbrev pub after_first : Placements → Placements
after_first p = record p { book = book_after p.book.agenda p.book }

-- the Free that is taken out, and what is left
abbrev pub found_free : Placements → Option FoundFree
found_free p = first_free [] p.book.agenda

abbrev pub point_in : Option FoundFree → Option ℕ
point_in None = None
point_in (Some f) = Some f.point

abbrev pub agenda_in : Option FoundFree → List Entry → List Entry
agenda_in None agenda = agenda
agenda_in (Some f) agenda = f.rest

abbrev pub free_front : Placements → Option ℕ
free_front p = point_in (found_free p)

abbrev pub free_behind : Placements → Placements
free_behind p = record p { book = record { rooms = p.book.rooms; agenda = agenda_in (found_free p) p.book.agenda } }

-- a refused Free goes to the back
abbrev pub put_back : ℕ → Placements → Placements
put_back point p = record p { book = record { rooms = p.book.rooms; agenda = p.book.agenda ++ Free point ∷ [] } }

-- the rooms of the point's unlinked blocks are given back
abbrev pub freed : ℕ → Placements → Placements
freed point p = settled (record { rooms = filter (stays point) p.book.rooms; agenda = p.book.agenda }) p.instruments p
