-- For proofs alone: what holds whenever the lock is free, of a seat, under the lock, and at the end.
use Rattle.std.specs.Prelude.{false, ◌≡◌, ℕ, ◌<◌, List, [], ◌∷◌, ◌++◌, length, map, Some}
use Rattle.std.specs.List.{AllByRecursion}
use Rattle.atomic_table.specs.Table.{Me}
use Rattle.atomic_table.specs.Seated.{TableId}
use Rattle.pn_types.specs.declared.limits.TheConstants.{MAX_WORKERS}
use Rattle.pn_types.specs.declared.quantum.Quantum.{Quantum}
use Rattle.session_spec.specs.Inputs.{Inputs}
use Rattle.session_spec.specs.Work.{Halted}
use Rattle.session.specs.Sessions.{SessionData}
use Rattle.live_run.specs.declared.view.Receipt.{Receipt}
use Rattle.live_run.specs.declared.view.OwnList.{OwnList}
use Rattle.live_run.specs.declared.view.Note.{Note}
use Rattle.live_run.specs.declared.view.Book.{Book}
use Rattle.live_run.specs.declared.view.View.{View}
use Rattle.live_run.specs.Receipts.{receipts_of}
use Rattle.live_run.specs.Seats.{SeatData}
use Rattle.live_run.specs.Views.{a_book, own_list, keeping, working}
use Rattle.live_run.specs.Rule.{IsHaltNote}

abbrev pub halted_harts : List Note → List ℕ
halted_harts ns = map (λ (n : Note). n.hart) ns

-- the workers' lists, and the harts noted, seat by seat
abbrev pub lists_of : List SeatData → List OwnList
lists_of seats = map (λ (s : SeatData). own_list s.worker s.receipts) seats

abbrev pub all_noted : List SeatData → List ℕ
all_noted [] = []
all_noted (s ∷ seats) = s.noted ++ all_noted seats

-- the book's seat, with these entries
abbrev pub book_with : List Quantum → ℕ → List Quantum → View
book_with first workers entries = keeping (a_book (length first) entries workers)

-- the session has the named inputs, and the first quanta and then the entries; the badge has the book of these entries
pub record IsUnderLock (inputs : Inputs)
    (first : List Quantum) (workers : ℕ) (word : TableId) (from : ℕ) (s : SessionData) (table : TableId) (views : List View) : Type 0 where
  pub entries : List Quantum
  pub inputs_are : s.inputs ≡ inputs
  pub open_is : s.closed ≡ false
  pub quanta_are : s.quanta ≡ first ++ entries
  pub from_is : from ≡ length first
  pub table_is : table ≡ word
  pub views_are : views ≡ book_with first workers entries ∷ []

-- a worker's seat: its own list is its receipts
pub record IsSeated (word : TableId) (worker : ℕ) (receipts : List Receipt) (table : TableId) (me : Me Quantum View) : Type 0 where
  pub table_is : table ≡ word
  pub below : worker < MAX_WORKERS
  pub me_is : me ≡ (working (own_list worker receipts) me.0.notes, [])

-- before a step under the lock: one seat has the book, with a number of entries, and the other its own list and its notes
pub record AreToMeet (book seat : Me Quantum View) (made : ℕ) (b : Book) (o : OwnList) (ns : List Note) : Type 0 where
  pub book_is : book ≡ (keeping b, [])
  pub seat_is : seat ≡ (working o ns, [])
  pub made_is : made ≡ length b.entries

-- an entry of this worker can be made
abbrev pub CanEnter : ℕ → Me Quantum View → Me Quantum View → ℕ → Type 0
CanEnter worker book seat made = (b : Book) × (o : OwnList) × (ns : List Note) × AreToMeet book seat made b o ns × (worker ≡ o.worker)

-- the hart can be noted
abbrev pub CanNote : Inputs → List Quantum → ℕ → Me Quantum View → Me Quantum View → ℕ → Type 0
CanNote inputs first hart book seat made =
    (b : Book) × (o : OwnList) × (ns : List Note) × AreToMeet book seat made b o ns × Halted inputs (first ++ b.entries) hart

-- what the rule says of the seat that has taken in all others
pub record IsSettled (inputs : Inputs) (first : List Quantum) (b : Book) (v : View) : Type 0 where
  pub from_is : b.from ≡ length first
  pub lists : AllByRecursion (λ (o : OwnList). (o.worker < b.seats) × (o.receipts ≡ receipts_of o.worker b.from b.entries)) v.lists
  pub notes : AllByRecursion (IsHaltNote inputs first b.entries) v.notes
  pub workers : AllByRecursion (λ (q : Quantum). q.worker < b.seats) b.entries

-- the seat with the book has taken in these seats
pub record IsGathered (b : Book) (seats : List SeatData) (v : View) : Type 0 where
  pub book_is : v.book ≡ Some b
  pub lists_are : v.lists ≡ lists_of seats
  pub notes_are : halted_harts v.notes ≡ all_noted seats
