use Rattle.std.proofs.Common.{◌≡◌, ◌∙◌, ap, sym, subst}
use Rattle.std.specs.Prelude.{IsTrue, ◌↔◌, cond}
use Rattle.machine.specs.Effects.{after_event}
use Rattle.machine.specs.Events as events
use Rattle.machine.specs.Events.{IsQuiet, MayArm}
use Rattle.machine.specs.States.{Machine, with_core}
use Rattle.instrument.specs.Laws.{ArePlacingsDone}
use Rattle.instrument.specs.Placements.{state_of}
use Rattle.instrument.specs.Scenes.{Arms}
use Rattle.instrument.specs.declared.number.State.TheVariants.{Placing}
use Rattle.instrumented.specs.Data.{InstrumentedData, state_of as both}
use Rattle.instrumented.specs.Instrumented.{is_linked}
use Rattle.instrumented.proofs.Kept.{returned}
use Rattle.instrumented.proofs.Linked.{armed_kept, arms_linked, is_placed, placed_is, placing_at}
use Rattle.instrumented.proofs.Harts.{quiet_armed, state_armed}
use Rattle.instrumented.proofs.instrumented_machine.InstrumentedMachine.arm.Goals as goal

pub returns-then-not-arm-clause-linked : goal.returns-then-not-arm-clause-linked
returns-then-not-arm-clause-linked c =
    let s = c.self.inside in
    let n = c.args.number.n in
    let placing = subst (λ (d : InstrumentedData). state_of d.state.placer n ≡ Placing) (sym c.self.view_is) c.requires.placing in
    let quiet = subst (λ (d : InstrumentedData). IsQuiet d.state.core) (sym c.self.view_is) c.requires.quiet in
    let a = placing_at (s.placer).placements n placing in
    let same = placed_is _ a.instrument c.placed.result.now a.is c.placed.ensures.placed in
    let may = subst (λ x. IsTrue c.arm.result ↔ MayArm (s.machine).core x) (sym same) c.arm.ensures.may in
    sym c.if-not-arm.true ∙ (arms_linked (both s.machine s.placer) c.self.invariant.reached n a c.arm.result quiet may ∙ ap (λ (d : InstrumentedData). is_linked d.state n) c.self.view_is)

pub armed-requires-clause-placed : goal.armed-requires-clause-placed
armed-requires-clause-placed c i e =
    let s = c.self.inside in
    let n = c.args.number.n in
    let placing = subst (λ (d : InstrumentedData). state_of d.state.placer n ≡ Placing) (sym c.self.view_is) c.requires.placing in
    let a = placing_at (s.placer).placements n placing in
    let same = placed_is _ a.instrument c.placed.result.now a.is c.placed.ensures.placed in
    let may = subst (MayArm (s.machine).core) (sym same) (c.arm.ensures.may.0 c.if-not-arm.false) in
    let one : a.instrument ≡ i = (let z = sym a.is ∙ e in cc) in
    subst (ArePlacingsDone (s.placer).placements) one (is_placed (both s.machine s.placer) c.self.invariant.reached n a may)

pub invariant_of-self-2 : goal.invariant_of-self-2
invariant_of-self-2 c =
    let s = c.self.inside in
    let n = c.args.number.n in
    let placing = subst (λ (d : InstrumentedData). state_of d.state.placer n ≡ Placing) (sym c.self.view_is) c.requires.placing in
    let a = placing_at (s.placer).placements n placing in
    let same = placed_is _ a.instrument c.placed.result.now a.is c.placed.ensures.placed in
    let may = subst (MayArm (s.machine).core) (sym same) (c.arm.ensures.may.0 c.if-not-arm.false) in
    let is = c.arm.ensures.state ∙ (ap (λ b. cond b (with_core s.machine (after_event (s.machine).core (events.Arm c.placed.result.now))) s.machine) c.if-not-arm.false ∙ ap (λ x. with_core s.machine (after_event (s.machine).core (events.Arm x))) (sym same)) in
    (armed_kept s.machine c.arm.new.self s.placer c.armed.new.self n a c.self.invariant may is c.armed.ensures.placements c.armed.ensures.ready).sound

pub returns-clause-linked : goal.returns-clause-linked
returns-clause-linked c =
    let s = c.self.inside in
    let n = c.args.number.n in
    let placing = subst (λ (d : InstrumentedData). state_of d.state.placer n ≡ Placing) (sym c.self.view_is) c.requires.placing in
    let quiet = subst (λ (d : InstrumentedData). IsQuiet d.state.core) (sym c.self.view_is) c.requires.quiet in
    let a = placing_at (s.placer).placements n placing in
    let same = placed_is _ a.instrument c.placed.result.now a.is c.placed.ensures.placed in
    let may = subst (λ x. IsTrue c.arm.result ↔ MayArm (s.machine).core x) (sym same) c.arm.ensures.may in
    sym c.if-not-arm.false ∙ (arms_linked (both s.machine s.placer) c.self.invariant.reached n a c.arm.result quiet may ∙ ap (λ (d : InstrumentedData). is_linked d.state n) c.self.view_is)

pub returns-clause-state : goal.returns-clause-state
returns-clause-state c =
    let s = c.self.inside in
    let n = c.args.number.n in
    let placing = subst (λ (d : InstrumentedData). state_of d.state.placer n ≡ Placing) (sym c.self.view_is) c.requires.placing in
    let a = placing_at (s.placer).placements n placing in
    let same = placed_is _ a.instrument c.placed.result.now a.is c.placed.ensures.placed in
    let may = subst (MayArm (s.machine).core) (sym same) (c.arm.ensures.may.0 c.if-not-arm.false) in
    let is = c.arm.ensures.state ∙ (ap (λ b. cond b (with_core s.machine (after_event (s.machine).core (events.Arm c.placed.result.now))) s.machine) c.if-not-arm.false ∙ ap (λ x. with_core s.machine (after_event (s.machine).core (events.Arm x))) (sym same)) in
    let kept = armed_kept s.machine c.arm.new.self s.placer c.armed.new.self n a c.self.invariant may is c.armed.ensures.placements c.armed.ensures.ready in
    returned (Arms n) s.machine c.arm.new.self s.placer c.armed.new.self c.args.self.now c.self.view_is kept c.armed.ensures.ready

pub returns-then-not-arm-clause-quiet : goal.returns-then-not-arm-clause-quiet
returns-then-not-arm-clause-quiet c =
    let s = c.self.inside in
    let quiet = subst (λ (d : InstrumentedData). IsQuiet d.state.core) (sym c.self.view_is) c.requires.quiet in
    let is = c.arm.ensures.state ∙ ap (λ b. cond b (with_core s.machine (after_event (s.machine).core (events.Arm c.placed.result.now))) s.machine) c.if-not-arm.true in
    subst (λ (m : Machine). IsQuiet m.core) (sym is) quiet

pub returns-clause-armed : goal.returns-clause-armed
returns-clause-armed c _ =
    let s = c.self.inside in
    let n = c.args.number.n in
    let placing = subst (λ (d : InstrumentedData). state_of d.state.placer n ≡ Placing) (sym c.self.view_is) c.requires.placing in
    let a = placing_at (s.placer).placements n placing in
    ap (λ p. state_of p n) c.armed.ensures.placements ∙ state_armed (s.placer).placements n a.instrument a.is

pub returns-clause-quiet : goal.returns-clause-quiet
returns-clause-quiet c =
    let s = c.self.inside in
    let quiet = subst (λ (d : InstrumentedData). IsQuiet d.state.core) (sym c.self.view_is) c.requires.quiet in
    let is = c.arm.ensures.state ∙ ap (λ b. cond b (with_core s.machine (after_event (s.machine).core (events.Arm c.placed.result.now))) s.machine) c.if-not-arm.false in
    subst (λ (m : Machine). IsQuiet m.core) (sym is) (quiet_armed c.placed.result.now (s.machine).core quiet)
