use Rattle.std.proofs.Common.{◌≡◌, ◌++◌, true, List, map, ap, ◌∙◌}
use Rattle.std.specs.List.{filter}
use Rattle.mdl_ast.specs.declared.block.Block.{Block}
use Rattle.mdl_ast.specs.declared.metric.Constraint.{Constraint}
use Rattle.mdl_plan.specs.Busy.{is_put_there, busy}
use Rattle.mdl_plan.specs.Pieces.{Piece, base_blocks, counter_pieces, counters, in_order, pieces_of, replacement}
use Rattle.mdl_plan.proofs.PieceOrder.{in_parts}
use Rattle.mdl_plan.proofs.pieces.pieces.Goals as goal

pub returns : goal.returns
returns c =
    let cs = map (λ k. k.now) c.args.counters.now in
    let bs = c.base_blocks-base.result.now in
    let same : bs ≡ base_blocks c.args.metric.now (replacement c.args.active.now) = c.base_blocks-base.ensures ∙ ap (base_blocks c.args.metric.now) c.replacement.ensures in
    in_parts (counter_pieces 1 cs) (pieces_of 0 bs) c.add_counters.new.pieces.items c.add_blocks.new.pieces.items c.add_blocks-2.new.pieces.items c.add_counters-2.new.pieces.items
    (c.in_ok-add_counters.ensures ∙ ap (λ (l : List Piece). l ++ filter (is_put_there true) (counter_pieces 1 cs)) c.new-pieces.ensures.items)
    c.in_ok-add_blocks.ensures c.in_ok-add_blocks-2.ensures c.in_ok-add_counters-2.ensures
    ∙ ap (λ (ks : List Constraint). busy (in_order (counter_pieces 1 ks) (pieces_of 0 bs))) c.requires.active
    ∙ ap (λ (l : List Block). busy (in_order (counter_pieces 1 (counters c.args.active.now)) (pieces_of 0 l))) same
