use Rattle.report_picture.proofs.Ends.{ends_more}
use Rattle.report_picture.proofs.html.add_ends.Goals as goal

pub loop-preserved : goal.loop-preserved
loop-preserved c = ends_more _ _ _ c.loop.counter c.loop.invariant c.in_ok-extend_from_slice.ensures.items
