use Rattle.std.proofs.Common.{◌≡◌, ◌++◌, take, map}
use Rattle.std.specs.List.{filter}
use Rattle.mdl_plan.specs.Busy.{is_put_there}
use Rattle.mdl_plan.specs.Pieces.{piece}
use Rattle.mdl_plan.proofs.pieces.add_block.Given as goal

abbrev pub invariant-loop-insertion : goal.invariant-loop-insertion
invariant-loop-insertion l = l.pieces.items ≡ l.fn.pieces.items ++ filter (is_put_there l.prepend) (map (piece l.variable l.block.set) (take l.insertion-index l.insertion-items))
