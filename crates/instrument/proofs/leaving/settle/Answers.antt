use Rattle.std.proofs.Common.{◌∙◌, List, ap, sym}
use Rattle.instrument.specs.declared.instrument.Instrument.{Instrument}
use Rattle.instrument.proofs.Freed.{all_settled}
use Rattle.instrument.proofs.leaving.settle.Goals as goal

pub returns-else-not-has_room_of : goal.returns-else-not-has_room_of
returns-else-not-has_room_of c =
    ap (λ (is : List Instrument). record (c.args.roster.now) { instruments = is }) (all_settled c.args.text.now.book.rooms c.args.number.n c.args.roster.now.instruments (sym c.has_room_of.ensures ∙ c.if-not-has_room_of.false))
