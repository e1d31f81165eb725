-- The slots of an instrument in a hart's bank: where each variable stands, what arming puts there, and what is read.
use Rattle.std.specs.Prelude.{◌≡◌, ℕ, ◌+◌, ◌-◌, ◌%◌, ◌^◌, ◌<◌, ◌≤◌, ◌==◌, ◌⊎◌, if◌then◌else◌, Bool, true, false, Some, List, [], ◌∷◌, slice_get, slice_index, slice_set, map}
use Rattle.pn_types.specs.declared.plan.Var.{Var}
use Rattle.pn_types.specs.declared.placed.Placed.{Placed}
use Rattle.tramp_spec.specs.Banks.{bank_len, first_slot}

-- where a variable stands
pub record VariableSlot : Type 0 where
  pub slot : ℕ
  pub timer : Bool

-- a counter has one slot; a timer two, its sum and then its number of starts
abbrev pub width : VariableSlot → ℕ
width p = if p.timer then 2 else 1

abbrev pub places : List ℕ → List Var → List VariableSlot
places [] vars = []
places (s ∷ slots) [] = []
places (s ∷ slots) (v ∷ vars) = record { slot = s; timer = v.timer } ∷ places slots vars

abbrev pub places_of : Placed → List VariableSlot
places_of i = places i.slots i.vars

-- a slot is one of these places'
abbrev pub IsSlotOf : List VariableSlot → ℕ → Type 0
IsSlotOf ps q = (n : ℕ) × (p : VariableSlot) × (slice_get ps n ≡ Some p) × (p.slot ≤ q) × (q < p.slot + width p)

-- the places are slots, and no two share one
pub record ArePlaces (ps : List VariableSlot) : Type 0 where
  pub within : (n : ℕ) (p : VariableSlot) → slice_get ps n ≡ Some p → (first_slot ≤ p.slot) × (p.slot + width p ≤ bank_len)
  pub apart : (n m : ℕ) (p q : VariableSlot) → slice_get ps n ≡ Some p → slice_get ps m ≡ Some q → (n ≡ m → ⊥)
      → (p.slot + width p ≤ q.slot) ⊎ (q.slot + width q ≤ p.slot)

-- no slot is of both
abbrev pub ShareNone : List VariableSlot → List VariableSlot → Type 0
ShareNone ps others = (q : ℕ) → IsSlotOf ps q → IsSlotOf others q → ⊥

-- ---- arming

-- A counter's slot has the value. A timer's number has it, and the sum is 0, or minus the ticks where the number isn't 0.
abbrev pub set_place : Bool → ℕ → ℕ → ℕ → List ℕ → List ℕ
set_place false s v ticks bank = slice_set bank s v
set_place true s v ticks bank = slice_set (slice_set bank (s + 1) v) s (if v == 0 then 0 else (2 ^ 64 - ticks) % 2 ^ 64)

abbrev pub set_places : List VariableSlot → List ℕ → ℕ → List ℕ → List ℕ
set_places [] values ticks bank = bank
set_places (p ∷ ps) [] ticks bank = bank
set_places (p ∷ ps) (v ∷ values) ticks bank = set_places ps values ticks (set_place p.timer p.slot v ticks bank)

abbrev pub initials : List Var → List ℕ
initials vars = map (λ v. v.initially) vars

-- ---- reading

-- a running timer reads its sum and the ticks
abbrev pub running : ℕ → ℕ → ℕ
running number ticks = if number == 0 then 0 else ticks

abbrev pub read_place : Bool → ℕ → ℕ → List ℕ → ℕ
read_place false s ticks bank = slice_index bank s
read_place true s ticks bank = (slice_index bank s + running (slice_index bank (s + 1)) ticks) % 2 ^ 64

abbrev pub read_first : List VariableSlot → ℕ → List ℕ → ℕ
read_first [] ticks bank = 0
read_first (p ∷ ps) ticks bank = read_place p.timer p.slot ticks bank

-- The reading of an instrument off a bank at a number of ticks: that of its first variable, which is the metric's own.
abbrev pub reading_of : Placed → ℕ → List ℕ → ℕ
reading_of i ticks bank = read_first (places_of i) ticks bank
