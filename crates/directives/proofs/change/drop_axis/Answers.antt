use Rattle.std.proofs.Common.{sym, ap, ◌∙◌}
use Rattle.std.specs.Option.{option_map}
use Rattle.directives.specs.Acts.{with_hypothesis, without_axis}
use Rattle.directives.proofs.Slots.{read_at, there_changed}
use Rattle.directives.proofs.change.drop_axis.Goals as goal

pub returns-in_ok-drop_axis_in-clause-ok : goal.returns-in_ok-drop_axis_in-clause-ok
returns-in_ok-drop_axis_in-clause-ok c =
    there_changed c.args.slots.now c.args.place (with_hypothesis c.args.name.now (without_axis c.args.axis.now)) c.index-slots-place.result c.drop_axis_in.new.slot
    (read_at c.args.slots.now c.args.place c.index-slots-place.result c.if-place-slots.true c.index-slots-place.is) (c.in_ok-drop_axis_in.ensures.ok ∙ ap (option_map (with_hypothesis c.args.name.now (without_axis c.args.axis.now))) (sym c.index-slots-place.is))
