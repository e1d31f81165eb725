-- The receipts of workers for the entries of a list of quanta.
use Rattle.std.specs.Prelude.{◌≡◌, ℕ, suc, ◌<◌, ◌==◌, Bool, true, false, List, [], ◌∷◌, length, drop, Some, slice_get}
use Rattle.std.specs.List.{AllByRecursion}
use Rattle.pn_types.specs.declared.quantum.Quantum.{Quantum}
use Rattle.live_run.specs.declared.view.Receipt.{Receipt}

-- a receipt: the entry of this number
abbrev pub receipt : ℕ → Quantum → Receipt
receipt number q = record { number = number; quantum = q }

-- the entries after the first ones
abbrev pub entries_past : List Quantum → List Quantum → List Quantum
entries_past first quanta = drop (length first) quanta

abbrev pub with_if : Bool → Receipt → List Receipt → List Receipt
with_if true r rs = r ∷ rs
with_if false r rs = rs

-- the receipts of a worker for these entries, the first of which has number n
abbrev pub receipts_of : ℕ → ℕ → List Quantum → List Receipt
receipts_of worker n [] = []
receipts_of worker n (q ∷ qs) = with_if (q.worker == worker) (receipt n q) (receipts_of worker (suc n) qs)

-- each has a number below this one
abbrev pub AreBelow : ℕ → List Receipt → Type 0
AreBelow number rs = AllByRecursion (λ r. r.number < number) rs

-- each one's entry stands at its number
abbrev pub AreFoundIn : List Quantum → List Receipt → Type 0
AreFoundIn quanta rs = AllByRecursion (λ r. slice_get quanta r.number ≡ Some r.quantum) rs
