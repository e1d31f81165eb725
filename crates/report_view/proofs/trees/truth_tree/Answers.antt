use Rattle.std.proofs.Common.{arith}
use Rattle.report_view.proofs.Rows.{depths_step, fitting, tree_step}
use Rattle.report_view.proofs.trees.truth_tree.Goals as goal

pub put_true-requires : goal.put_true-requires
put_true-requires c = fitting c.loop-number.number c.loop-number.rows.items (omega arith) c.loop-number.invariant.depths

pub loop-number-preserved : goal.loop-number-preserved
loop-number-preserved c =
    let n = c.loop-number.number in
    let part = c.index-parts-number.result in
    let rows = c.loop-number.rows.items in
    let new = c.put_true.new.rows.items in
    record {
      tree = tree_step c.args.parts.now n part rows new (omega arith) c.index-parts-number.is c.in_ok-put_true.ensures c.loop-number.invariant.tree;
      depths = depths_step c.args.parts.now n part rows new (omega arith) c.index-parts-number.is c.in_ok-put_true.ensures c.loop-number.invariant.depths;
    }
