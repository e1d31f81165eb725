-- The book beside the machine, a site and an event at a time.
use Rattle.std.proofs.Common.{◌≡◌, ℕ, List, [], ◌∷◌, ◌++◌, length, Option, Some, None}
use Rattle.std.specs.Prelude.{Bool, true, false}
use Rattle.machine.specs.Cores.{In, Core}
use Rattle.machine.specs.Effects.{after_event}
use Rattle.machine.specs.Events as events
use Rattle.machine.specs.Events.{Event, May, Apart, IsQuiet}
use Rattle.instrument.specs.Books.{Book, Blocks, with_blocks, without_site, FoundFree, first_free}
use Rattle.instrument.specs.Handing.{event_of, is_barred}
use Rattle.instrument.specs.declared.entry.Entry.{Entry}
use Rattle.instrument.specs.declared.entry.Entry.TheVariants.{WriteBase, WriteMini, LinkMini, LinkPoint, UnlinkMini, UnlinkPoint, Free}
use Rattle.instrument.specs.declared.room.Hold.TheVariants.{Held}
use Rattle.instrument.specs.declared.room.Room.{Room}
use Rattle.instrument.proofs.Stages.{GoodMini, rooms_done}
use Rattle.instrument.proofs.Booked.{SiteFits}

pub record State : Type 0 where
  pub core : Core
  pub book : Book

pub record Out : Type 0 where
  pub events : List Event
  pub state : State

abbrev pub out : List Event → State → Out
out es st = record { events = es; state = st }

abbrev pub a_book : List Room → List Entry → Book
a_book rooms agenda = record { rooms = rooms; agenda = agenda }

-- an entry is done, with what the book makes of it
abbrev pub done : Entry → List Entry → State → Out
done e es st = out (event_of st.core e ∷ []) (record { core = after_event st.core (event_of st.core e); book = a_book (rooms_done e st.book.rooms) es })

-- a refused Free goes to the back
abbrev pub release : Bool → ℕ → List Entry → State → Out
release false p es st = done (Free p) es st
release true p es st = out [] (record { core = st.core; book = a_book st.book.rooms (es ++ Free p ∷ []) })

abbrev pub hand_entry : Entry → List Entry → State → Out
hand_entry (Free p) es st = release (is_barred st.core p) p es st
hand_entry (WriteBase b) es st = done (WriteBase b) es st
hand_entry (WriteMini b) es st = done (WriteMini b) es st
hand_entry (LinkMini p m) es st = done (LinkMini p m) es st
hand_entry (LinkPoint p m) es st = done (LinkPoint p m) es st
hand_entry (UnlinkMini p m) es st = done (UnlinkMini p m) es st
hand_entry (UnlinkPoint p m) es st = done (UnlinkPoint p m) es st

abbrev pub hand : List Entry → State → Out
hand [] st = out [] st
hand (e ∷ es) st = hand_entry e es st

abbrev pub sweep : Option FoundFree → State → Out
sweep None st = out [] st
sweep (Some f) st = done (Free f.point) f.rest st

pub data Step : Type 0 where
  -- the machine does something that leaves its blocks
  Happened : (e : Event) → Step
  -- a site of an instrument is placed
  Admitted : (owner : ℕ) (k : Blocks) → Step
  -- the site whose mini block has this room is dropped
  Dropped : (x : Room) → Step
  -- the first entry of the agenda is handed out
  Handed : Step
  -- the first Free that can be done is done
  Swept : Step

abbrev pub does : Step → State → Out
does (Happened e) st = out (e ∷ []) (record { core = after_event st.core e; book = st.book })
does (Admitted owner k) st = out [] (record { core = st.core; book = with_blocks owner k st.book })
does (Dropped x) st = out [] (record { core = st.core; book = without_site x st.book })
does Handed st = hand st.book.agenda st
does Swept st = sweep (first_free [] st.book.agenda) st

-- an event that leaves the blocks
abbrev pub LeavesBlocks : Event → Type 0
LeavesBlocks (events.Turn h) = Unit {0}
LeavesBlocks (events.Arm i) = Unit {0}
LeavesBlocks (events.Sample i) = Unit {0}
LeavesBlocks (events.Write b) = ⊥
LeavesBlocks (events.LinkMini p m) = ⊥
LeavesBlocks (events.UnlinkMini p m) = ⊥
LeavesBlocks (events.LinkPoint p) = ⊥
LeavesBlocks (events.UnlinkPoint p) = ⊥
LeavesBlocks (events.Free p) = ⊥

-- rooms that are free in the book
pub record CanAdmit (k : Blocks) (st : State) : Type 0 where
  pub good : GoodMini st.core.program k.mini
  pub free : (x : Room) → In x st.book.rooms → Apart x.at x.len k.mini.at (length k.mini.words)
  pub fits : SiteFits st.core.program st.book.rooms k.base k.mini

abbrev pub Can : Step → State → Type 0
Can (Happened e) st = LeavesBlocks e × May st.core e
Can (Admitted owner k) st = CanAdmit k st
Can (Dropped x) st = In x st.book.rooms × (x.base ≡ false) × (x.hold ≡ Held)
Can Handed st = Unit {0}
Can Swept st = IsQuiet st.core

abbrev pub AllCan : List Step → State → Type 0
AllCan [] st = Unit {0}
AllCan (a ∷ more) st = Can a st × AllCan more (does a st).state

abbrev pub all_events : List Step → State → List Event
all_events [] st = []
all_events (a ∷ more) st = (does a st).events ++ all_events more (does a st).state

abbrev pub all_steps : List Step → State → State
all_steps [] st = st
all_steps (a ∷ more) st = all_steps more (does a st).state
