use Rattle.std.proofs.Common.{◌≡◌, List, [], Option, Some, None, refl, sym, ap, ◌∙◌, subst, inl}
use Rattle.std.specs.Prelude.{find}
use Rattle.std.specs.Option.{option_map}
use Rattle.pn_types.specs.declared.pick.PickCause.TheVariants.{AlreadyShown, NotShown}
use Rattle.mdl_check.specs.declared.checked.CheckedWish.{CheckedWish}
use Rattle.instrument.specs.Placements.{Placements}
use Rattle.instrument.specs.Scenes.{Drops}
use Rattle.instrument.specs.declared.number.InstrumentNo.{InstrumentNo}
use Rattle.instrumented.specs.Data.{InstrumentedData}
use Rattle.instrumented.specs.Instrumented.{Instrumented}
use Rattle.session_spec.specs.Admission.{shows, with_refused, with_show, with_wish}
use Rattle.session_pairs.specs.SampledPairs.{AreLive}
use Rattle.session_pairs.specs.declared.pair.SampledPair.{SampledPair}
use Rattle.session_pairs.proofs.Live.{live_done}
use Rattle.session.specs.Candidates.{IsOfWish}
use Rattle.session.specs.Tables.{StateTable, kept_of}
use Rattle.session.specs.contracts.stored.StoredState.{the_view}
use Rattle.session.proofs.Instrumented.{step_same}
use Rattle.session.proofs.Looks.{dropped_at, found_stands, none_found, one_found, wish_drops, wish_shows}
use Rattle.session.proofs.stored.StoredState.consider.Goals as goal

-- what was found in these pairs was found in those
in_pairs : (o : Option InstrumentNo) (p : Placements) (w : CheckedWish) (pairs all : List SampledPair) → pairs ≡ all → o ≡ option_map (λ (x : SampledPair). x.shown.instrument) (find (λ (x : SampledPair). shows p w x.shown) pairs)
    → o ≡ option_map (λ (x : SampledPair). x.shown.instrument) (find (λ (x : SampledPair). shows p w x.shown) all)
in_pairs o p w pairs all e f = f ∙ ap (λ (ks : List SampledPair). option_map (λ (x : SampledPair). x.shown.instrument) (find (λ (x : SampledPair). shows p w x.shown) ks)) e

pub drop-requires-in-None-Some : goal.drop-requires-in-None-Some
drop-requires-in-None-Some c =
    let s = c.self.inside in
    let w = c.args.wish.now in
    found_stands w [] (the_view s) c.in-None-Some.number (sym c.in-None-Some.is-1 ∙ in_pairs c.find_shown-shown.result s.machine.state.placer w c.deref.result.now s.pairs.all.items c.deref.ensures.value c.find_shown-shown.ensures)

pub returns-in-Some-None-clause-kept : goal.returns-in-Some-None-clause-kept
returns-in-Some-None-clause-kept c ws =
    let i = c.args.inputs.now in
    let s = c.self.inside in
    let w = c.args.wish.now in
    let is = subst (IsOfWish i w c.args.plan.now) c.in-Some-None.is-0 c.requires.candidate in
    let none = none_found w ws (the_view s) (sym c.in-Some-None.is-1 ∙ in_pairs c.find_shown-shown.result s.machine.state.placer w c.deref.result.now s.pairs.all.items c.deref.ensures.value c.find_shown-shown.ensures) in
    c.show.ensures.kept ws ∙ sym (subst (λ (t : StateTable). with_wish i w (kept_of ws t) ≡ with_show None i w (kept_of ws t)) c.self.view_is (wish_shows i w (kept_of ws (the_view s)) None is.0 none))

pub returns-in-Some-Some-clause-kept : goal.returns-in-Some-Some-clause-kept
returns-in-Some-Some-clause-kept c ws =
    let i = c.args.inputs.now in
    let s = c.self.inside in
    let w = c.args.wish.now in
    let is = subst (IsOfWish i w c.args.plan.now) c.in-Some-Some.is-0 c.requires.candidate in
    let found = one_found w ws (the_view s) c.in-Some-Some.field-0-1 (sym c.in-Some-Some.is-1 ∙ in_pairs c.find_shown-shown.result s.machine.state.placer w c.deref.result.now s.pairs.all.items c.deref.ensures.value c.find_shown-shown.ensures) in
    c.refuse.ensures.kept ws ∙ sym (subst (λ (t : StateTable). with_wish i w (kept_of ws t) ≡ with_refused (Some AlreadyShown) w (kept_of ws t)) c.self.view_is (wish_shows i w (kept_of ws (the_view s)) (Some found.s) is.0 found.is))

pub returns-in-None-Some-clause-kept : goal.returns-in-None-Some-clause-kept
returns-in-None-Some-clause-kept c ws =
    let i = c.args.inputs.now in
    let s = c.self.inside in
    let w = c.args.wish.now in
    let is = subst (IsOfWish i w c.args.plan.now) c.in-None-Some.is-0 c.requires.candidate in
    let found = one_found w ws (the_view s) c.in-None-Some.number (sym c.in-None-Some.is-1 ∙ in_pairs c.find_shown-shown.result s.machine.state.placer w c.deref.result.now s.pairs.all.items c.deref.ensures.value c.find_shown-shown.ensures) in
    let k = kept_of ws (the_view s) in
    subst (λ (t : StateTable). record (kept_of ws (the_view s)) { machine = c.drop-in-None-Some.new.self.state } ≡ with_wish i w (kept_of ws t)) c.self.view_is
    (dropped_at w k found.s c.in-None-Some.number c.drop-in-None-Some.new.self.state found.number_is (ap (λ (d : InstrumentedData). d.state) c.drop-in-None-Some.ensures.state) ∙ sym (wish_drops i w k (Some found.s) is.0 found.is))

pub returns-in-None-Some-clause-step : goal.returns-in-None-Some-clause-step
returns-in-None-Some-clause-step c =
    let i = c.args.inputs.now in
    let s = c.self.inside in
    let state = c.drop-in-None-Some.ensures.state in
    let live : AreLive s.machine.state.placer s.pairs.all.items s.pairs.live.items = subst (λ (x : StateTable). AreLive x.machine.state.placer x.pairs x.live) (sym c.self.view_is) c.requires.live in
    step_same i c.args.plan.now (the_view s) c.args.self.now _ c.self.view_is (inl (ap (λ (d : InstrumentedData). d.ready) state))
    (subst (λ (m : Instrumented). AreLive m.placer s.pairs.all.items s.pairs.live.items) (sym (ap (λ (d : InstrumentedData). d.state) state)) (live_done s.machine.state s.pairs.all.items s.pairs.live.items live (Drops c.in-None-Some.number.n) tt))
    refl c.drop-in-None-Some.ensures.core

pub returns-in-None-None-clause-kept : goal.returns-in-None-None-clause-kept
returns-in-None-None-clause-kept c ws =
    let i = c.args.inputs.now in
    let s = c.self.inside in
    let w = c.args.wish.now in
    let is = subst (IsOfWish i w c.args.plan.now) c.in-None-None.is-0 c.requires.candidate in
    let none = none_found w ws (the_view s) (sym c.in-None-None.is-1 ∙ in_pairs c.find_shown-shown.result s.machine.state.placer w c.deref.result.now s.pairs.all.items c.deref.ensures.value c.find_shown-shown.ensures) in
    c.refuse-in-None-None.ensures.kept ws ∙ sym (subst (λ (t : StateTable). with_wish i w (kept_of ws t) ≡ with_refused (Some NotShown) w (kept_of ws t)) c.self.view_is (wish_drops i w (kept_of ws (the_view s)) None is.0 none))
