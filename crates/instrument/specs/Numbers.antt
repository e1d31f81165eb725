-- What the calls make of the states of instruments, for a law function of this crate.
use Rattle.std.specs.Prelude.{◌≡◌, ℕ, ◌+◌, ◌<◌, ◌≤◌, false, Option, Some, Ok}
use Rattle.pn_types.specs.declared.image.Image.{Image}
use Rattle.pn_types.specs.declared.plan.Plan.{Plan}
use Rattle.machine.specs.Cores.{In}
use Rattle.prim_code.specs.Counts.{predicted}
use Rattle.instrument.specs.Placements.{Placements, no_placements, is_leaving, state_of, admission, after_admission, with_armed, dropped, after_first, free_behind, put_back, freed}
use Rattle.instrument.specs.declared.instrument.Instrument.{Instrument}
use Rattle.instrument.specs.declared.number.State.TheVariants.{Placing, Gone}

-- the calls that change the placer
pub data Call : Type 0 where
  Admit : (plan : Plan) (cost : Option ℕ) → Call
  Arm : (n : ℕ) → Call
  Drop : (n : ℕ) → Call
  Next : Call
  NextFree : Call
  PutBack : (point : ℕ) → Call
  Freed : (point : ℕ) → Call

abbrev pub called : Call → Placements → Placements
called (Admit plan cost) p = after_admission plan cost p
called (Arm n) p = with_armed n p
called (Drop n) p = dropped n p
called Next p = after_first p
called NextFree p = free_behind p
called (PutBack point) p = put_back point p
called (Freed point) p = freed point p

-- the call isn't the dropping of this instrument
abbrev pub IsNoDrop : ℕ → Call → Type 0
IsNoDrop n (Drop m) = m ≡ n → ⊥
IsNoDrop n (Admit plan cost) = Unit {0}
IsNoDrop n (Arm m) = Unit {0}
IsNoDrop n Next = Unit {0}
IsNoDrop n NextFree = Unit {0}
IsNoDrop n (PutBack point) = Unit {0}
IsNoDrop n (Freed point) = Unit {0}

-- the listed instruments aren't gone, and their numbers are below the number of all that were admitted
pub record IsNumbered (p : Placements) : Type 0 where
  pub below : (i : Instrument) → In i p.instruments → i.no < p.count
  pub here : (i : Instrument) → In i p.instruments → i.state ≡ Gone → ⊥

pub record StatesStay : Type 0 where
  pub first : (image : Image) (limit : ℕ) → IsNumbered (no_placements image limit)
  pub numbered : (k : Call) (p : Placements) → IsNumbered p → IsNumbered (called k p)
  -- one that is gone stays gone
  pub gone : (k : Call) (p : Placements) (n : ℕ) → IsNumbered p → n < p.count → state_of p n ≡ Gone → state_of (called k p) n ≡ Gone
  -- one that wasn't dropped is placing or armed, until it is
  pub held : (k : Call) (p : Placements) (n : ℕ)
      → IsNumbered p → is_leaving (state_of p n) ≡ false → IsNoDrop n k → is_leaving (state_of (called k p) n) ≡ false

-- what an admission makes: an instrument of the next number, whose cost is within the limit
pub record IsAdmissionOf (p : Placements) (plan : Plan) (cost : Option ℕ) (q : Placements) : Type 0 where
  pub count : q.count ≡ p.count + 1
  pub before : state_of p p.count ≡ Gone
  pub state : state_of q p.count ≡ Placing
  pub within : (limit : ℕ) → cost ≡ Some limit → predicted plan ≤ limit

abbrev pub AdmissionsTell : Type 0
AdmissionsTell = (p : Placements) (plan : Plan) (cost : Option ℕ) (q : Placements)
    → IsNumbered p → admission p plan cost ≡ Ok q → IsAdmissionOf p plan cost q
