use Rattle.std.proofs.Common.{arith}
use Rattle.report_diff.specs.Runs.{hart_end_line}
use Rattle.report_diff.proofs.ByNumber.{one_more}
use Rattle.report_diff.proofs.runs.add_hart_ends.Goals as goal

pub loop-number-preserved : goal.loop-number-preserved
loop-number-preserved c =
    one_more hart_end_line c.args.news.now c.args.olds.now c.loop-number.number _ c.loop-number.out.items _ _ (omega arith) c.in_ok-add_end_if_both.ensures c.loop-number.invariant
