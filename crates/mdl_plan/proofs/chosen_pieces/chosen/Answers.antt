use Rattle.mdl_plan.specs.Choosing.{is_chosen}
use Rattle.mdl_plan.proofs.PieceNumbers.{next_piece}
use Rattle.mdl_plan.proofs.chosen_pieces.chosen.Goals as goal

pub loop-number-preserved : goal.loop-number-preserved
loop-number-preserved c =
    next_piece c.args.scope.now.procs (is_chosen c.args.scope.now.selected c.args.kind) c.args.pieces.now c.loop-number.number c.index-pieces-number.result
    c.loop-number.lists c.add.new.lists c.loop-number-test.true c.index-pieces-number.is c.in_ok-add.ensures c.loop-number.invariant
