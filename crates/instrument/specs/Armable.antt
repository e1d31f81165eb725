-- What the machine arms.
use Rattle.std.specs.Prelude.{List}
use Rattle.std.specs.List.{AllByRecursion}
use Rattle.pn_types.specs.declared.plan.Open.{Open}
use Rattle.frame_walk.specs.Rooms.{IsSmall}
use Rattle.machine.specs.Cores.{In}
use Rattle.instrument.specs.declared.instrument.Instrument.{Instrument}

-- Opens of at most 32 statements, which put no number of more than 32 bits
abbrev pub IsArmable : List Open → Type 0
IsArmable opens = AllByRecursion IsSmall opens

-- each of them can be armed
abbrev pub AreArmable : List Instrument → Type 0
AreArmable is = (i : Instrument) → In i is → IsArmable i.placed.opens
