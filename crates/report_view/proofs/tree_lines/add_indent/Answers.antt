use Rattle.std.proofs.Common.{◌*◌, ◌+◌, arith}
use Rattle.std.proofs.lemmas.Grind.{common_steps}
use Rattle.report_view.proofs.Joins.{twice_more}
use Rattle.report_view.proofs.tree_lines.add_indent.Goals as goal

pub loop-preserved : goal.loop-preserved
loop-preserved c =
    let more = twice_more (2 * c.loop.counter) (2 * (c.loop.counter + 1)) 32 (omega arith) in
    grind (arith, common_steps, more)
