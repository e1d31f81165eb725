-- Steps that may be refused, one after another: the first refusal is that of all.
use Rattle.std.specs.Prelude.{◌≡◌, ⊤, Result, Ok, Err}
use Rattle.refusals.specs.declared.fault.Fault.{Fault}
use Rattle.refusals.specs.declared.refusal.Refusal.{Refusal}
use Rattle.refusals.specs.declared.refusal.Refusal.TheVariants as refusal

-- what a step may come to: a value, or the fault by which it is refused
abbrev pub Step : Type 0 → Type 1
Step A = Result A Fault → Type 0

-- what comes of a second step after what the first came to
abbrev pub next_step : {A B : Type 0} → (A → Step B) → Result A Fault → Step B
next_step next (Ok a) b = next a b
next_step next (Err fault) b = b ≡ Err fault

-- a step and then another
abbrev pub Then : {A B : Type 0} → Step A → (A → Step B) → Step B
Then {A} first next b = (a : Result A Fault) × first a × next_step next a b

-- why a call was refused; running out of memory is always allowed
abbrev pub RefusalIs : Refusal → (Fault → Type 0) → Type 0
RefusalIs (refusal.Fault fault) why = why fault
RefusalIs refusal.NoMemory why = ⊤

-- what a call returned is what a step may come to
abbrev pub Comes : {A : Type 0} → Result A Refusal → Step A → Type 0
Comes (Ok a) step = step (Ok a)
Comes (Err e) step = RefusalIs e (λ fault. step (Err fault))
