use Rattle.std.proofs.Common.{◌∙◌, ap, sym}
use Rattle.std.specs.Prelude.{slice_get}
use Rattle.block_count.specs.Readings.{stops_seen}
use Rattle.block_count.proofs.Taken.{one_more}
use Rattle.block_count.proofs.reading.stops.Goals as goal

pub loop-number-preserved : goal.loop-number-preserved
loop-number-preserved c =
    let all = stops_seen c.args.budget c.args.machine.now.core in
    one_more all c.loop-number.stops.items c.push.new.self.items c.loop-number.number c.hart_stop.result c.loop-number.invariant
    (ap (slice_get all) (sym c.numbered.ensures) ∙ c.hart_stop.ensures) c.in_ok-push.ensures.items
