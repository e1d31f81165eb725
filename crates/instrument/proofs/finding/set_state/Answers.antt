use Rattle.std.proofs.Common.{refl}
use Rattle.instrument.proofs.Listed.{none_changed, place_changed}
use Rattle.instrument.proofs.finding.set_state.Goals as goal

pub returns-in-Some : goal.returns-in-Some
returns-in-Some c = place_changed c.args.instruments.now c.args.number.n c.in-Some.place (λ s. c.args.state) c.index-instruments-place.result c.index-instruments-place.result c.args.state c.requires c.in-Some.ensures.within c.in-Some.ensures.some c.index-instruments-place.is refl

pub returns-in_default : goal.returns-in_default
returns-in_default c = none_changed c.args.instruments.now c.args.number.n (λ s. c.args.state) c.in_default.ensures.none
