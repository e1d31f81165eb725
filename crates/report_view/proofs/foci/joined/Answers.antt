use Rattle.std.proofs.Common.{arith}
use Rattle.report_view.proofs.Joins.{joined_kept}
use Rattle.report_view.proofs.foci.joined.Goals as goal

pub loop-place-preserved : goal.loop-place-preserved
loop-place-preserved c = joined_kept c.args.parts.now c.loop-place.place _ c.loop-place.text.items _ (omega arith) c.in_ok-add_part.ensures c.loop-place.invariant
