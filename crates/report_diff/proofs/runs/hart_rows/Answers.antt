use Rattle.std.proofs.Common.{arith}
use Rattle.report_diff.specs.Runs.{hart_ticks_row}
use Rattle.report_diff.proofs.ByNumber.{one_more}
use Rattle.report_diff.proofs.runs.hart_rows.Goals as goal

pub loop-number-preserved : goal.loop-number-preserved
loop-number-preserved c =
    one_more hart_ticks_row c.args.news.now c.args.olds.now c.loop-number.number _ c.loop-number.rows.items _ _ (omega arith) c.in_ok-add_ticks_if_both.ensures c.loop-number.invariant
