use Rattle.std.proofs.Common.{None, sym, ◌∙◌}
use Rattle.directives.proofs.Slots.{nothing_past, set_past, read_at}
use Rattle.directives.proofs.taking.take_slot.Goals as goal

pub returns-then-place-slots : goal.returns-then-place-slots
returns-then-place-slots c = record { item = sym (nothing_past c.args.slots.now c.args.place c.if-place-slots.true); slots = sym (set_past c.args.slots.now c.args.place None c.if-place-slots.true) }

pub returns-clause-item : goal.returns-clause-item
returns-clause-item c = c.take.ensures.value ∙ sym c.index-slots-place.is ∙ read_at c.args.slots.now c.args.place c.index-slots-place.result c.if-place-slots.false c.index-slots-place.is
