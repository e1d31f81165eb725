-- The instruments with the memory that they have: for how many more instruments, and for how many takes of slots.
use Rattle.std.specs.Prelude.{ℕ, max, List, []}
use Rattle.instrument.specs.declared.instrument.Instrument.{Instrument}

pub record RosterData : Type 0 where
  pub instruments : List Instrument
  pub room : ℕ
  pub takes : ℕ

abbrev pub no_roster : RosterData
no_roster = record { instruments = []; room = 0; takes = 0 }

-- there is room for at least a number of instruments and of takes
abbrev pub with_room : ℕ → ℕ → RosterData → RosterData
with_room count takes r = record r { room = max r.room count; takes = max r.takes takes }
