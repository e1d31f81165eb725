use Rattle.std.proofs.Common.{◌∙◌, ap, sym, subst}
use Rattle.machine.specs.Cores.{In}
use Rattle.instrument.specs.Needs.{need_of}
use Rattle.instrument.specs.Scenes.{Admits, IsPlanFor}
use Rattle.instrumented.specs.Data.{InstrumentedData}
use Rattle.instrumented.specs.Instrumented.{after_act}
use Rattle.instrumented.proofs.Kept.{admitted_kept}
use Rattle.instrumented.proofs.Answered.{answered, below}
use Rattle.instrumented.proofs.instrumented_machine.InstrumentedMachine.admit.Goals as goal

pub admit-requires-clause-named : goal.admit-requires-clause-named
admit-requires-clause-named c = below _ c.args.plan.now c.requires.plan

pub invariant_of-self : goal.invariant_of-self
invariant_of-self c =
    let s = c.self.inside in
    let for = subst (λ (d : InstrumentedData). IsPlanFor d.state.core.program c.args.plan.now) (sym c.self.view_is) c.requires.plan in
    let ready = subst (λ (d : InstrumentedData). In (need_of c.args.plan.now) d.ready) (sym c.self.view_is) c.requires.ready in
    let is = answered (s.placer).placements (c.admit.new.self).placements c.args.plan.now c.args.cost c.admit.result c.admit.ensures.ok c.admit.ensures.refused c.admit.ensures.unchanged (c.admit.ensures.memory ready) in
    (admitted_kept s.machine s.placer c.admit.new.self c.args.plan.now c.args.cost c.self.invariant for ready is c.admit.ensures.ready).sound

pub returns-clause-state : goal.returns-clause-state
returns-clause-state c =
    let s = c.self.inside in
    let for = subst (λ (d : InstrumentedData). IsPlanFor d.state.core.program c.args.plan.now) (sym c.self.view_is) c.requires.plan in
    let ready = subst (λ (d : InstrumentedData). In (need_of c.args.plan.now) d.ready) (sym c.self.view_is) c.requires.ready in
    let is = answered (s.placer).placements (c.admit.new.self).placements c.args.plan.now c.args.cost c.admit.result c.admit.ensures.ok c.admit.ensures.refused c.admit.ensures.unchanged (c.admit.ensures.memory ready) in
    (admitted_kept s.machine s.placer c.admit.new.self c.args.plan.now c.args.cost c.self.invariant for ready is c.admit.ensures.ready).state ∙ ap (λ (d : InstrumentedData). after_act (Admits c.args.plan.now c.args.cost) d.state) c.self.view_is
