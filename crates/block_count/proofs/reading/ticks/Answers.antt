use Rattle.std.proofs.Common.{◌∙◌, ap, sym}
use Rattle.std.specs.Prelude.{slice_get}
use Rattle.std.specs.Option.{option_map}
use Rattle.block_count.specs.Readings.{ticks_seen}
use Rattle.block_count.proofs.Taken.{one_more, got}
use Rattle.block_count.proofs.reading.ticks.Goals as goal

pub loop-number-preserved : goal.loop-number-preserved
loop-number-preserved c =
    let all = ticks_seen c.args.machine.now.core in
    one_more all c.loop-number.ticks.items c.push.new.self.items c.loop-number.number c.ticks.result c.loop-number.invariant
    (got (λ x. x.ticks) c.args.machine.now.core.harts c.loop-number.number ∙ ap (λ n. option_map (λ x. x.ticks) (slice_get c.args.machine.now.core.harts n)) (sym c.numbered.ensures) ∙ c.ticks.ensures) c.in_ok-push.ensures.items
