use Rattle.std.proofs.Common.{sym, ap, ◌∙◌}
use Rattle.std.specs.Option.{option_map}
use Rattle.directives.specs.Acts.{with_hypothesis, with_threshold}
use Rattle.directives.proofs.Slots.{read_at, there_changed}
use Rattle.directives.proofs.change.set_threshold.Goals as goal

pub returns-then-place-slots : goal.returns-then-place-slots
returns-then-place-slots c =
    there_changed c.args.slots.now c.args.place (with_hypothesis c.args.name.now (with_threshold c.args.threshold)) c.index-slots-place.result c.set_threshold_in.new.slot
    (read_at c.args.slots.now c.args.place c.index-slots-place.result c.if-place-slots.true c.index-slots-place.is) (c.set_threshold_in.ensures ∙ ap (option_map (with_hypothesis c.args.name.now (with_threshold c.args.threshold))) (sym c.index-slots-place.is))
