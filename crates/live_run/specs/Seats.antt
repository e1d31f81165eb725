-- What contracts see of a worker's seat.
use Rattle.std.specs.Prelude.{◌≡◌, ℕ, zero, suc, ◌<◌, List, [], ◌∷◌, ◌++◌, length}
use Rattle.std.specs.List.{AllByRecursion}
use Rattle.pn_types.specs.declared.quantum.Quantum.{Quantum}
use Rattle.session_spec.specs.Inputs.{Inputs}
use Rattle.session_spec.specs.Work.{Halted}
use Rattle.live_run.specs.declared.view.Receipt.{Receipt}
use Rattle.live_run.specs.Receipts.{AreFoundIn, receipts_of}

-- the worker's number, its receipts and the harts that it noted, each in the order in which they came
pub record SeatData : Type 0 where
  pub worker : ℕ
  pub receipts : List Receipt
  pub noted : List ℕ

-- a seat as it is made
abbrev pub fresh_seat : ℕ → SeatData
fresh_seat worker = record { worker = worker; receipts = []; noted = [] }

-- those of the first n workers
abbrev pub fresh_seats : ℕ → List SeatData
fresh_seats zero = []
fresh_seats (suc n) = fresh_seats n ++ fresh_seat n ∷ []

-- the seats of the workers n, n + 1 and so on
abbrev pub AreInOrder : ℕ → List SeatData → Type 0
AreInOrder n [] = Unit {0}
AreInOrder n (s ∷ seats) = (s.worker ≡ n) × AreInOrder (suc n) seats

-- The receipts of each seat are those of its worker for the entries, the first of which has number n; and no entry is another worker's.
pub record AreDealt (n : ℕ) (entries : List Quantum) (seats : List SeatData) : Type 0 where
  pub receipts : AllByRecursion (λ (s : SeatData). s.receipts ≡ receipts_of s.worker n entries) seats
  pub workers : AllByRecursion (λ (q : Quantum). q.worker < length seats) entries

-- the entry of each receipt stands at its number
abbrev pub AreAllFoundIn : List Quantum → List SeatData → Type 0
AreAllFoundIn quanta seats = AllByRecursion (λ (s : SeatData). AreFoundIn quanta s.receipts) seats

-- each hart that a seat noted is halted
abbrev pub AreHalted : Inputs → List Quantum → List SeatData → Type 0
AreHalted i quanta seats = AllByRecursion (λ (s : SeatData). AllByRecursion (Halted i quanta) s.noted) seats
