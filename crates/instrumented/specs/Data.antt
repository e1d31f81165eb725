-- A machine with its instruments, and the needs of the plans that are ready: the memory of their admissions was taken.
use Rattle.std.specs.Prelude.{◌+◌, ◌*◌, ◌≤◌, List}
use Rattle.machine.specs.States.{Machine}
use Rattle.instrument.specs.Needs.{Need, sites_in}
use Rattle.instrument.specs.Placers.{PlacerData}
use Rattle.instrumented.specs.Instrumented.{Instrumented}
use Rattle.instrumented.specs.Reached.{IsReachedByActs}
use Rattle.instrumented.specs.Doing.{writes_in}

pub record InstrumentedData : Type 0 where
  pub state : Instrumented
  pub ready : List Need

-- ---- for proofs alone

abbrev pub state_of : Machine → PlacerData → Instrumented
state_of machine placer = record { core = machine.core; placer = placer.placements }

abbrev pub data_of : Machine → PlacerData → InstrumentedData
data_of machine placer = record { state = state_of machine placer; ready = placer.ready }

-- acts lead to both, and the machine has room for all blocks that are to be written, and for two at each site of what is ready
pub record AreReached (machine : Machine) (placer : PlacerData) : Type 0 where
  pub reached : IsReachedByActs (state_of machine placer)
  pub room : writes_in placer.placements.book.agenda + 2 * sites_in placer.ready ≤ machine.room
