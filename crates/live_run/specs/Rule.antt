-- For proofs alone: the rule of the word that counts the entries, and what its steps tell.
use Rattle.std.specs.Prelude.{◌≡◌, ◌⊎◌, ℕ, ◌+◌, ◌<◌, ◌≤◌, List, [], ◌∷◌, ◌++◌, length, take, Option, Some, None}
use mathlib.Core.Option.{some}
use lib.ListN.{get_elem?}
use Rattle.std.specs.List.{AllByRecursion}
use Rattle.atomic_table.specs.Table.{State, Me, Step}
use Rattle.pn_types.specs.declared.quantum.Quantum.{Quantum}
use Rattle.session_spec.specs.Inputs.{Inputs}
use Rattle.session_spec.specs.Work.{Halted}
use Rattle.live_run.specs.declared.view.OwnList.{OwnList}
use Rattle.live_run.specs.declared.view.Note.{Note}
use Rattle.live_run.specs.declared.view.Book.{Book}
use Rattle.live_run.specs.declared.view.View.{View}
use Rattle.live_run.specs.Receipts.{AreBelow, receipts_of}
use Rattle.live_run.specs.Views.{keeping, a_book, with_quantum_entry, noting}
use Rattle.live_run.specs.Said.{said_of}

-- the hart was halted after a number of the entries
abbrev pub IsHaltNote : Inputs → List Quantum → List Quantum → Note → Type 0
IsHaltNote inputs first entries n = (n.at ≤ length entries) × Halted inputs (first ++ take n.at entries) n.hart

-- the worker has a number below the seats, its list is in the view with this number, and its receipts are the book's of that worker
abbrev pub IsListed : Book → (ℕ → ℕ) → ℕ → OwnList → Type 0
IsListed book owner by o = (o.worker < book.seats) × (owner o.worker ≡ by) × (o.receipts ≡ receipts_of o.worker book.from book.entries)

-- there is a list of the worker
abbrev pub HasList : ℕ → List OwnList → Type 0
HasList worker [] = ⊥
HasList worker (o ∷ os) = (o.worker ≡ worker) ⊎ HasList worker os

-- what the rule says of one view
pub record IsFitting (inputs : Inputs) (first : List Quantum) (keeper : ℕ) (book : Book) (owner : ℕ → ℕ) (by : ℕ) (v : View) : Type 0 where
  pub keeps : (b : Book) → v.book ≡ Some b → (by ≡ keeper) × (b ≡ book)
  pub lists : AllByRecursion (IsListed book owner by) v.lists
  pub notes : AllByRecursion (IsHaltNote inputs first book.entries) v.notes

-- One view holds the book, and the word is the number of its entries. The lists' workers are those below the book's count of seats,
-- each in one view. A list is the book's entries of its worker, in order, with their numbers. The book has no entry of another
-- worker. Each noted hart was halted after as many entries as its note says.
pub record IsBookRule (inputs : Inputs) (first : List Quantum) (words : List ℕ) (views : List View) : Type 0 where
  pub keeper : ℕ
  pub book : Book
  pub owner : ℕ → ℕ
  pub words_are : words ≡ length book.entries ∷ []
  pub from_is : book.from ≡ length first
  pub held : (v : View) × (get_elem? views keeper ≡ some v) × (v.book ≡ Some book)
  pub owned : (worker : ℕ) → worker < book.seats → (v : View) × (get_elem? views (owner worker) ≡ some v) × HasList worker v.lists
  pub fits : (by : ℕ) (v : View) → get_elem? views by ≡ some v → IsFitting inputs first keeper book owner by v
  pub workers : AllByRecursion (λ (q : Quantum). q.worker < book.seats) book.entries

abbrev pub IsRuled : Inputs → List Quantum → State Quantum View → Type 0
IsRuled inputs first s = IsBookRule inputs first s.words s.views

-- the view at the start: an empty book, which begins after the first quanta
abbrev pub opening_view : List Quantum → View
opening_view first = keeping (a_book (length first) [] 0)

-- the lists' receipts have numbers below the book's next
abbrev pub AreBelowBook : Option Book → List OwnList → Type 0
AreBelowBook None os = Unit {0}
AreBelowBook (Some b) os = AllByRecursion (λ (o : OwnList). AreBelow (b.from + length b.entries) o.receipts) os

-- the announced quantum is the book's and the own list's last, and its number is above the earlier ones
abbrev pub IsEntering : Step Quantum → Me Quantum View → ℕ → Me Quantum View → Type 0
IsEntering st me found next = (next ≡ (with_quantum_entry (said_of st.said) me.0, me.1)) × AreBelowBook me.0.book me.0.lists

-- the announced hart is noted
abbrev pub IsNoting : Step Quantum → Me Quantum View → ℕ → Me Quantum View → Type 0
IsNoting st me found next = next ≡ (noting (said_of st.said) me.0, me.1)
