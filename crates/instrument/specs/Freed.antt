-- For proofs alone: a point is freed room by room, and the instruments whose last rooms these were go.
use Rattle.std.specs.Prelude.{◌≡◌, ℕ, ◌==◌, ◌&&◌, ◌||◌, not, Bool, true, false, List, ◌∷◌, ◌++◌, filter}
use Rattle.machine.specs.Cores.{In}
use Rattle.instrument.specs.Books.{stays}
use Rattle.instrument.specs.Placements.{is_here, is_leaving}
use Rattle.instrument.specs.declared.instrument.Instrument.{Instrument}
use Rattle.instrument.specs.declared.room.Room.{Room}

-- ---- rooms

-- none of them goes where the point is freed
abbrev pub AllStay : ℕ → List Room → Type 0
AllStay point rooms = filter (stays point) rooms ≡ rooms

-- the room was taken out, the first that goes where the point is freed
pub record IsTakenOut (point : ℕ) (room : Room) (old new : List Room) : Type 0 where
  pub before : List Room
  pub after : List Room
  pub was : old ≡ before ++ room ∷ after
  pub now : new ≡ before ++ after
  pub leaves : stays point room ≡ false
  pub first : AllStay point before

-- ---- instruments

-- an instrument stays where that of a number goes if it was dropped
abbrev pub is_kept : ℕ → Instrument → Bool
is_kept n i = not ((i.no == n) && is_leaving i.state)

-- the same where that one goes only if it has no room
abbrev pub is_settled : List Room → ℕ → Instrument → Bool
is_settled rooms n i = not (i.no == n) || is_here rooms i

-- each of them is here with these rooms
abbrev pub AreHere : List Room → List Instrument → Type 0
AreHere rooms is = (i : Instrument) → In i is → is_here rooms i ≡ true
