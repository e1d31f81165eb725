-- When the slots of a hart's bank stand for the values of a plan's variables.
use Rattle.std.specs.Prelude.{◌≡◌, ℕ, ◌+◌, ◌%◌, ◌^◌, ◌<◌, ◌≤◌, ◌==◌, if◌then◌else◌, Bool, true, false, Some, List, slice_get, slice_index}
use Rattle.tramp_spec.specs.Slots.{VariableSlot, read_place, IsSlotOf}

-- a counter's slot has its value; a timer's second slot has its number of starts, which `spare` more don't wrap: a number below
-- 2^63 has 2^63 to spare
abbrev pub HasValue : Bool → (slot spare value : ℕ) → List ℕ → Type 0
HasValue false s spare v bank = (slice_index bank s ≡ v) × (v < 2 ^ 64)
HasValue true s spare v bank = (slice_index bank (s + 1) ≡ v) × (v + spare < 2 ^ 64)

-- The slots stand for these values, with this number of starts to spare.
abbrev pub StandFor : List VariableSlot → ℕ → List ℕ → List ℕ → Type 0
StandFor ps spare values bank =
    (n : ℕ) (p : VariableSlot) → slice_get ps n ≡ Some p → HasValue p.timer p.slot spare (slice_index values n) bank

-- Each timer reads the same off both banks.
abbrev pub SameReadings : List VariableSlot → ℕ → List ℕ → List ℕ → Type 0
SameReadings ps ticks bank next =
    (n : ℕ) (p : VariableSlot) → slice_get ps n ≡ Some p → p.timer ≡ true
    → read_place true p.slot ticks next ≡ read_place true p.slot ticks bank

-- ---- what keeps it

-- how much more a timer with this number of starts reads after a tick
abbrev pub one_if : ℕ → ℕ
one_if number = if number == 0 then 0 else 1

-- the slots of these places stay
abbrev pub SameSlots : List VariableSlot → List ℕ → List ℕ → Type 0
SameSlots ps bank next = (q : ℕ) → IsSlotOf ps q → slice_index next q ≡ slice_index bank q

-- Fewer starts to spare are asked; what leaves the slots leaves their values and readings; and at a tick each timer with a start reads
-- one more, modulo 2^64.
pub record StandingKept : Type 0 where
  pub fewer : (ps : List VariableSlot) (spare less : ℕ) (values bank : List ℕ) → less ≤ spare → StandFor ps spare values bank
      → StandFor ps less values bank
  pub values : (ps : List VariableSlot) (spare : ℕ) (values bank next : List ℕ) → SameSlots ps bank next → StandFor ps spare values bank
      → StandFor ps spare values next
  pub readings : (ps : List VariableSlot) (ticks : ℕ) (bank next : List ℕ) → SameSlots ps bank next → SameReadings ps ticks bank next
  pub tick : (slot ticks : ℕ) (bank : List ℕ)
      → read_place true slot (ticks + 1) bank ≡ (read_place true slot ticks bank + one_if (slice_index bank (slot + 1))) % 2 ^ 64
