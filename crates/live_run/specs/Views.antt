-- For proofs alone: what the seats of the word know, and how each step changes it.
use Rattle.std.specs.Prelude.{ℕ, suc, ◌+◌, List, [], ◌∷◌, ◌++◌, length, Option, Some, None}
use Rattle.pn_types.specs.declared.quantum.Quantum.{Quantum}
use Rattle.live_run.specs.declared.view.Receipt.{Receipt}
use Rattle.live_run.specs.declared.view.OwnList.{OwnList}
use Rattle.live_run.specs.declared.view.Note.{Note}
use Rattle.live_run.specs.declared.view.Book.{Book}
use Rattle.live_run.specs.declared.view.View.{View}
use Rattle.live_run.specs.Receipts.{receipt}

abbrev pub own_list : ℕ → List Receipt → OwnList
own_list worker receipts = record { worker = worker; receipts = receipts }

abbrev pub note : ℕ → ℕ → Note
note hart at = record { hart = hart; at = at }

abbrev pub a_book : ℕ → List Quantum → ℕ → Book
a_book from entries seats = record { from = from; entries = entries; seats = seats }

-- the book's seat: it has the book, and no list
abbrev pub keeping : Book → View
keeping b = record { book = Some b; lists = []; notes = [] }

-- a worker's seat: its own list and its notes, and no book
abbrev pub working : OwnList → List Note → View
working o ns = record { book = None; lists = o ∷ []; notes = ns }

-- a worker's seat while it has the lock
abbrev pub writing : Book → OwnList → List Note → View
writing b o ns = record { book = Some b; lists = o ∷ []; notes = ns }

-- a seat that another took in
abbrev pub empty_view : View
empty_view = record { book = None; lists = []; notes = [] }

-- ---- a worker's seat is split off the book's

abbrev pub one_seat_more : Option Book → Option Book
one_seat_more None = None
one_seat_more (Some b) = Some (a_book b.from b.entries (suc b.seats))

abbrev pub next_worker : Option Book → View
next_worker None = empty_view
next_worker (Some b) = working (own_list b.seats []) []

abbrev pub hiring : View → View
hiring v = record { book = one_seat_more v.book; lists = v.lists; notes = v.notes }

abbrev pub hired : View → View
hired v = next_worker v.book

-- ---- a seat takes in another

abbrev pub either_book : Option Book → Option Book → Option Book
either_book None c = c
either_book (Some b) c = Some b

abbrev pub together : View → View → View
together v w = record { book = either_book v.book w.book; lists = v.lists ++ w.lists; notes = v.notes ++ w.notes }

-- ---- the book and the seat's own list gain an entry

abbrev pub longer : Quantum → Book → Book
longer q b = a_book b.from (b.entries ++ q ∷ []) b.seats

abbrev pub longer_book : Quantum → Option Book → Option Book
longer_book q None = None
longer_book q (Some b) = Some (longer q b)

abbrev pub gains : Quantum → Book → OwnList → OwnList
gains q b o = own_list o.worker (o.receipts ++ receipt (b.from + length b.entries) q ∷ [])

abbrev pub longer_lists : Quantum → Option Book → List OwnList → List OwnList
longer_lists q None os = os
longer_lists q (Some b) [] = []
longer_lists q (Some b) (o ∷ os) = gains q b o ∷ os

abbrev pub with_quantum_entry : Quantum → View → View
with_quantum_entry q v = record { book = longer_book q v.book; lists = longer_lists q v.book v.lists; notes = v.notes }

-- ---- the seat notes a hart, and the number of entries

abbrev pub new_note : ℕ → Option Book → List Note
new_note hart None = []
new_note hart (Some b) = note hart (length b.entries) ∷ []

abbrev pub noting : Quantum → View → View
noting q v = record { book = v.book; lists = v.lists; notes = v.notes ++ new_note q.hart v.book }

-- ---- the book's seat is split off a worker's

abbrev pub without_book : View → View
without_book v = record { book = None; lists = v.lists; notes = v.notes }

abbrev pub book_alone : View → View
book_alone v = record { book = v.book; lists = []; notes = [] }
