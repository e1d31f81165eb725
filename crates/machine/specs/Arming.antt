-- What arming an instrument makes of a hart's bank.
use Rattle.std.specs.Prelude.{◌≡◌, ℕ, ◌+◌, ◌^◌, ◌<◌, true, Some, List, length, slice_get, slice_index}
use Rattle.std.specs.List.{AllByRecursion}
use Rattle.tramp_spec.specs.Banks.{bank_len}
use Rattle.tramp_spec.specs.Slots.{VariableSlot, ArePlaces, IsSlotOf, set_places, read_place}
use Rattle.prim_code.specs.Standing.{StandFor}

-- the slots of these places stand for the values, each timer reads 0, and no other doubleword has changed
pub record AreSet (ps : List VariableSlot) (values : List ℕ) (spare ticks : ℕ) (bank next : List ℕ) : Type 0 where
  pub stand : StandFor ps spare values next
  pub timers : (n : ℕ) (p : VariableSlot) → slice_get ps n ≡ Some p → p.timer ≡ true → read_place true p.slot ticks next ≡ 0
  pub others : (q : ℕ) → (IsSlotOf ps q → ⊥) → slice_index next q ≡ slice_index bank q
  pub size : length next ≡ length bank

-- Arming does this, where every value has this many starts to spare.
abbrev pub ArmingSets : Type 0
ArmingSets =
    (ps : List VariableSlot) (values bank : List ℕ) (spare ticks : ℕ) → ArePlaces ps → length values ≡ length ps → length bank ≡ bank_len
    → ticks < 2 ^ 64 → AllByRecursion (λ v. v + spare < 2 ^ 64) values
    → AreSet ps values spare ticks bank (set_places ps values ticks bank)
