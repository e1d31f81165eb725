use Rattle.std.proofs.Common.{◌≡◌, ◌++◌, take}
use Rattle.std.specs.List.{filter}
use Rattle.mdl_plan.specs.Busy.{is_put_there}
use Rattle.mdl_plan.specs.Pieces.{pieces_of}
use Rattle.mdl_plan.proofs.pieces.add_blocks.Given as goal

abbrev pub invariant-loop-block : goal.invariant-loop-block
invariant-loop-block l = l.pieces.items ≡ l.fn.pieces.items ++ filter (is_put_there l.prepend) (pieces_of l.variable (take l.block-index l.blocks))
