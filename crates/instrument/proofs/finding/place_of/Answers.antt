use Rattle.std.proofs.Common.{rules, subst, sym}
use Rattle.std.proofs.lemmas.List.Sorted.{answers_always}
use Rattle.instrument.specs.declared.instrument.Instrument.{Instrument}
use Rattle.instrument.proofs.Listed.{IsPlace, searched}
use Rattle.instrument.proofs.finding.place_of.Goals as goal

pub returns : goal.returns
returns c =
    let facts = c.binary_search_by_key.ensures in
    let by_number = facts.position (λ (i : Instrument). i.no) (answers_always _ _ _ (λ f a r g called. search rules)) in
    let place = subst (λ o. IsPlace c.args.instruments.now c.args.number.n o) (sym c.ok.ensures.value) (searched c.args.instruments.now c.args.number.n c.binary_search_by_key.result c.requires facts.bound by_number) in
    record { within = place.within; some = place.some; none = place.none }
