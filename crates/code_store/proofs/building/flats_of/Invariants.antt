use Rattle.std.proofs.Common.{take}
use Rattle.code_store.specs.Operations.{AreFlatsOf}
use Rattle.code_store.proofs.building.flats_of.Given as goal

abbrev pub invariant-loop-slot : goal.invariant-loop-slot
invariant-loop-slot l = AreFlatsOf (take l.slot-index l.slots) l.flats.items
