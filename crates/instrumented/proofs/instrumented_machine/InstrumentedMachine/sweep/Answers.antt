use Rattle.std.proofs.Common.{◌∙◌, sym, subst}
use Rattle.machine.specs.Events.{IsQuiet}
use Rattle.instrument.specs.Scenes.{Sweeps}
use Rattle.instrumented.specs.Data.{InstrumentedData}
use Rattle.instrumented.proofs.Kept.{freed_by, none_swept_kept, returned, swept_kept}
use Rattle.instrumented.proofs.instrumented_machine.InstrumentedMachine.sweep.Goals as goal

pub invariant_of-self-2 : goal.invariant_of-self-2
invariant_of-self-2 c =
    let s = c.self.inside in
    let quiet : IsQuiet (s.machine).core = subst (λ (d : InstrumentedData). IsQuiet d.state.core) (sym c.self.view_is) c.requires in
    let point = c.in-Some.point in
    (swept_kept s.machine c.free.new.self s.placer c.next_free.new.self c.freed.new.self point c.self.invariant quiet (sym c.in-Some.is ∙ c.next_free.ensures.point) c.next_free.ensures.placements c.next_free.ensures.ready c.freed.ensures.placements c.freed.ensures.ready
    (freed_by s.machine c.free.new.self point c.free.result quiet c.free.ensures.may c.free.ensures.state)).sound

pub returns-clause-state : goal.returns-clause-state
returns-clause-state c =
    let s = c.self.inside in
    let quiet : IsQuiet (s.machine).core = subst (λ (d : InstrumentedData). IsQuiet d.state.core) (sym c.self.view_is) c.requires in
    let point = c.in-Some.point in
    let kept = swept_kept s.machine c.free.new.self s.placer c.next_free.new.self c.freed.new.self point c.self.invariant quiet (sym c.in-Some.is ∙ c.next_free.ensures.point) c.next_free.ensures.placements c.next_free.ensures.ready c.freed.ensures.placements c.freed.ensures.ready
    (freed_by s.machine c.free.new.self point c.free.result quiet c.free.ensures.may c.free.ensures.state) in
    returned Sweeps s.machine c.free.new.self s.placer c.freed.new.self c.args.self.now c.self.view_is kept (c.freed.ensures.ready ∙ c.next_free.ensures.ready)

pub returns-in_default-clause-state : goal.returns-in_default-clause-state
returns-in_default-clause-state c =
    let s = c.self.inside in
    let quiet : IsQuiet (s.machine).core = subst (λ (d : InstrumentedData). IsQuiet d.state.core) (sym c.self.view_is) c.requires in
    let kept = none_swept_kept s.machine s.placer c.next_free.new.self c.self.invariant quiet (sym c.in_default.is ∙ c.next_free.ensures.point) c.next_free.ensures.placements c.next_free.ensures.ready in
    returned Sweeps s.machine s.machine s.placer c.next_free.new.self c.args.self.now c.self.view_is kept c.next_free.ensures.ready
