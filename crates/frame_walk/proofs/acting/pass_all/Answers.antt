use Rattle.std.proofs.Common.{rules, arith}
use Rattle.frame_walk.proofs.Steps.{passes}
use Rattle.frame_walk.proofs.acting.pass_all.Goals as goal

pub loop-stmt-preserved : goal.loop-stmt-preserved
loop-stmt-preserved c =
    let a = c.pass.ensures.acts in
    let b = c.loop-stmt.invariant.acts in
    record {
      passing = passes c.args.stmts.now c.loop-stmt.stmt-index c.stmt-item.result c.args.values.now.values c.loop-stmt.values.values c.pass.new.values.values (search rules) c.stmt-item.is c.loop-stmt.invariant.passing c.pass.ensures.values;
      acts = omega arith;
    }
