-- What reading gives: a value, or the first fault. Places are in bytes from the front of `.debug_line`.
use Rattle.std.specs.Prelude.{◌≡◌, ⊤, ℕ, zero, suc, Bool, true, false, Option, Some, None, List, [], ◌∷◌, Result, Ok, Err}
use Rattle.line_table.specs.declared.fault.FaultKind.{FaultKind}
use Rattle.line_table.specs.declared.fault.LineFault.{LineFault}
use Rattle.line_table.specs.declared.fault.LineError.{LineError}
use Rattle.line_table.specs.declared.fault.LineError.TheVariants as error

-- a value and the place after it, or a fault
abbrev pub Read : Type 0 → Type 0
Read A = Result (A × ℕ) LineFault

abbrev pub fault : ℕ → FaultKind → LineFault
fault place kind = record { place = place; kind = kind }

-- what a reading gives, unless one before it gives a fault
infixl 10 ◌>>=◌
abbrev pub ◌>>=◌ : {A B : Type 0} → Result A LineFault → (A → Result B LineFault) → Result B LineFault
(Ok x) >>= f = f x
(Err e) >>= f = Err e

-- n values one after the other, and the place after them
abbrev pub many : {A : Type 0} → (ℕ → Read A) → ℕ → ℕ → Read (List A)
many one zero at = Ok ([], at)
many one (suc n) at = one at >>= λ x. many one n x.1 >>= λ more. Ok (x.0 ∷ more.0, more.1)

-- the fault, where the test holds
abbrev pub fault_where : Bool → LineFault → Option LineFault
fault_where true e = Some e
fault_where false e = None

-- what the first check gives that gives a fault
abbrev pub first_fault : List (Option LineFault) → Option LineFault
first_fault [] = None
first_fault (None ∷ checks) = first_fault checks
first_fault (Some e ∷ checks) = Some e

-- a value, unless there is a fault
abbrev pub unless_fault : {A : Type 0} → Option LineFault → A → Result A LineFault
unless_fault None value = Ok value
unless_fault (Some e) value = Err e

-- ---- what a call returns

-- why a call was refused; running out of memory is always allowed
abbrev pub Refuses : {A : Type 0} → LineError → Result A LineFault → Type 0
Refuses (error.Fault e) meaning = meaning ≡ Err e
Refuses error.NoMemory meaning = ⊤

-- the result, as `view` shows it, is what the bytes mean, unless memory runs out
abbrev pub Means : {A B : Type 0} → (A → B) → Result A LineError → Result B LineFault → Type 0
Means view (Ok x) meaning = meaning ≡ Ok (view x)
Means view (Err e) meaning = Refuses e meaning
