use Rattle.std.proofs.Common.{◌∙◌, ◌≡◌, ap, filter, sym, subst}
use Rattle.std.specs.Prelude.{IfNone}
use Rattle.instrument.specs.Freed.{is_kept}
use Rattle.instrument.specs.Placements.{is_leaving}
use Rattle.instrument.specs.declared.instrument.Instrument.{Instrument}
use Rattle.instrument.proofs.Listed.{none_dropped, place_dropped, place_stays}
use Rattle.instrument.proofs.finding.place_of_dropped.Goals as goal

pub returns-in_err-place-clause-none : goal.returns-in_err-place-clause-none
returns-in_err-place-clause-none c =
    let xs = c.args.instruments.now in
    subst (λ o. IfNone o (xs ≡ filter (is_kept c.args.number.n) xs)) (sym c.from_residual.ensures) (none_dropped xs c.args.number.n c.in_err-place.ensures.none)

pub returns-then-is_leaving-clause-some : goal.returns-then-is_leaving-clause-some
returns-then-is_leaving-clause-some c =
    place_dropped c.args.instruments.now c.args.number.n c.in_ok-place.place c.index-instruments-place.result c.requires c.in_ok-place.ensures.within c.index-instruments-place.is c.in_ok-place.ensures.some (ap (λ (i : Instrument). is_leaving i.state) c.index-instruments-place.is ∙ sym c.is_leaving.ensures ∙ c.if-is_leaving.true)

pub returns-else-is_leaving-clause-none : goal.returns-else-is_leaving-clause-none
returns-else-is_leaving-clause-none c =
    place_stays c.args.instruments.now c.args.number.n c.in_ok-place.place c.index-instruments-place.result c.requires c.in_ok-place.ensures.within c.index-instruments-place.is c.in_ok-place.ensures.some (ap (λ (i : Instrument). is_leaving i.state) c.index-instruments-place.is ∙ sym c.is_leaving.ensures ∙ c.if-is_leaving.false)
