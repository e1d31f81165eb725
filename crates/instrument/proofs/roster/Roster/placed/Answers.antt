use Rattle.std.proofs.Common.{◌∙◌, ap}
use Rattle.std.specs.Prelude.{◌==◌, Some, find}
use Rattle.instrument.specs.declared.instrument.Instrument.{Instrument}
use Rattle.instrument.proofs.Armable.{armable_found}
use Rattle.instrument.proofs.roster.Roster.placed.Goals as goal

pub returns-in-Some-clause-armable : goal.returns-in-Some-clause-armable
returns-in-Some-clause-armable c =
    let is_it = λ (i : Instrument). i.no == c.args.number.n in
    armable_found is_it c.self.inside.instruments.items (Some c.in-Some.instrument.now) (c.in-Some.ensures ∙ ap (find is_it) c.deref.ensures.value) c.self.invariant.armable
