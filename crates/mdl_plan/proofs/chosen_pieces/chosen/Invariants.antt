use Rattle.std.proofs.Common.{take}
use Rattle.mdl_plan.specs.Choosing.{is_chosen}
use Rattle.mdl_plan.specs.Numbers.{AreNumbers}
use Rattle.mdl_plan.proofs.chosen_pieces.chosen.Given as goal

abbrev pub invariant-loop-number : goal.invariant-loop-number
invariant-loop-number l = AreNumbers l.scope.procs (is_chosen l.scope.selected l.kind) (take l.number l.pieces) l.lists
