use Rattle.std.proofs.Common.{◌∙◌, ap}
use Rattle.std.specs.Option.{option_copied}
use Rattle.instrument.proofs.Listed.{none_found, place_found}
use Rattle.instrument.proofs.finding.find_instrument.Goals as goal

pub returns-in_err-place : goal.returns-in_err-place
returns-in_err-place c = ap option_copied c.from_residual.ensures ∙ none_found c.args.instruments.now c.args.number.n c.in_err-place.ensures.none

pub returns : goal.returns
returns c = place_found c.args.instruments.now c.args.number.n c.in_ok-place.place c.index-instruments-place.result c.requires c.in_ok-place.ensures.within c.index-instruments-place.is c.in_ok-place.ensures.some
