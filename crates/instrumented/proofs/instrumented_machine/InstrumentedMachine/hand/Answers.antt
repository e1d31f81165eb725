use Rattle.std.proofs.Common.{◌∙◌, ap, sym}
use Rattle.instrument.specs.Scenes.{Hands}
use Rattle.instrumented.specs.Data.{state_of}
use Rattle.instrumented.proofs.Handed.{can_perform, first_is, none_is}
use Rattle.instrumented.proofs.Kept.{handed_kept, none_kept, returned, room_for}
use Rattle.machine.specs.States.{Machine}
use Rattle.instrumented.specs.Data.{InstrumentedData}
use Rattle.instrumented.proofs.Harts.{handed_same}
use Rattle.instrumented.proofs.instrumented_machine.InstrumentedMachine.hand.Goals as goal

pub perform-requires-clause-doable : goal.perform-requires-clause-doable
perform-requires-clause-doable c =
    let s = c.self.inside in
    let first = first_is (s.placer).placements.book.agenda c.in-Some.event (sym c.in-Some.is ∙ c.next.ensures.event) in
    can_perform (state_of s.machine s.placer) c.in-Some.event first c.self.invariant.reached

pub perform-requires-clause-room : goal.perform-requires-clause-room
perform-requires-clause-room c =
    let s = c.self.inside in
    let first = first_is (s.placer).placements.book.agenda c.in-Some.event (sym c.in-Some.is ∙ c.next.ensures.event) in
    room_for s.machine s.placer c.in-Some.event c.self.invariant first

pub invariant_of-self : goal.invariant_of-self
invariant_of-self c =
    let s = c.self.inside in
    let event = c.in-Some.event in
    let first = first_is (s.placer).placements.book.agenda event (sym c.in-Some.is ∙ c.next.ensures.event) in
    let e = c.perform.ensures in
    (handed_kept s.machine c.perform.new.machine s.placer c.next.new.self c.perform.new.placer event c.self.invariant first c.next.ensures.placements c.next.ensures.ready e.ready e.machine e.placements).sound

pub returns-in-Some-clause-state : goal.returns-in-Some-clause-state
returns-in-Some-clause-state c =
    let s = c.self.inside in
    let event = c.in-Some.event in
    let first = first_is (s.placer).placements.book.agenda event (sym c.in-Some.is ∙ c.next.ensures.event) in
    let e = c.perform.ensures in
    let kept = handed_kept s.machine c.perform.new.machine s.placer c.next.new.self c.perform.new.placer event c.self.invariant first c.next.ensures.placements c.next.ensures.ready e.ready e.machine e.placements in
    returned Hands s.machine c.perform.new.machine s.placer c.perform.new.placer c.args.self.now c.self.view_is kept (e.ready ∙ c.next.ensures.ready)

pub returns-in_default-clause-state : goal.returns-in_default-clause-state
returns-in_default-clause-state c =
    let s = c.self.inside in
    let none = none_is (s.placer).placements.book.agenda (sym c.in_default.is ∙ c.next.ensures.event) in
    let kept = none_kept s.machine s.placer c.next.new.self c.self.invariant none c.next.ensures.placements c.next.ensures.ready in
    returned Hands s.machine s.machine s.placer c.next.new.self c.args.self.now c.self.view_is kept c.next.ensures.ready

pub returns-in-Some-clause-harts : goal.returns-in-Some-clause-harts
returns-in-Some-clause-harts c =
    let s = c.self.inside in
    ap (λ (m : Machine). m.core.harts) c.perform.ensures.machine ∙ (handed_same c.in-Some.event (s.machine).core ∙ ap (λ (d : InstrumentedData). d.state.core.harts) c.self.view_is)
