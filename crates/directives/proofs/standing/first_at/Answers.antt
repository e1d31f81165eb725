use Rattle.std.proofs.Common.{sym, ap, ◌∙◌}
use Rattle.std.specs.Option.{option_and_then}
use Rattle.directives.specs.Standing.{slot}
use Rattle.directives.proofs.Slots.{nothing_past, read_at}
use Rattle.directives.proofs.standing.first_at.Goals as goal

pub returns-then-place-slots : goal.returns-then-place-slots
returns-then-place-slots c =
    let slots = c.args.slots.now in
    sym (ap (option_and_then (slot slots)) (sym c.in_ok-place.ensures.value) ∙ nothing_past slots c.in_ok-place.field-0.now c.if-place-slots.true)

pub returns : goal.returns
returns c =
    let slots = c.args.slots.now in
    c.as_ref.ensures.value ∙ read_at slots c.in_ok-place.field-0.now c.index-slots-place.result c.if-place-slots.false c.index-slots-place.is ∙ ap (option_and_then (slot slots)) c.in_ok-place.ensures.value
