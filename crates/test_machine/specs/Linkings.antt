-- Events by which blocks are written and linked.
use Rattle.std.specs.Prelude.{List, [], ◌∷◌}
use Rattle.tramp_spec.specs.declared.block.Block.{Block}
use Rattle.machine.specs.Events.{Event, Write, LinkMini, LinkPoint}

-- a point's base block and its first mini block
abbrev pub linking_of : Block → Block → List Event
linking_of base mini = Write base ∷ Write mini ∷ LinkMini mini.point mini.at ∷ LinkPoint base.point ∷ []

-- a mini block more
abbrev pub adding_of : Block → List Event
adding_of mini = Write mini ∷ LinkMini mini.point mini.at ∷ []
