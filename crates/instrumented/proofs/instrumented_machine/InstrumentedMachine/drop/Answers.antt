use Rattle.std.proofs.Common.{◌≡◌, sym, subst}
use Rattle.std.specs.Prelude.{◌⊎◌}
use Rattle.instrument.specs.Placements.{state_of}
use Rattle.instrument.specs.Scenes.{Drops}
use Rattle.instrument.specs.declared.number.State.TheVariants.{Armed, Placing}
use Rattle.instrumented.specs.Data.{InstrumentedData}
use Rattle.instrumented.proofs.Kept.{dropped_kept, returned}
use Rattle.instrumented.proofs.instrumented_machine.InstrumentedMachine.drop.Goals as goal

pub invariant_of-self : goal.invariant_of-self
invariant_of-self c =
    let s = c.self.inside in
    let may = subst (λ (d : InstrumentedData). (state_of d.state.placer c.args.number.n ≡ Placing) ⊎ (state_of d.state.placer c.args.number.n ≡ Armed)) (sym c.self.view_is) c.requires in
    (dropped_kept s.machine s.placer c.drop.new.self c.args.number.n c.self.invariant may c.drop.ensures.placements c.drop.ensures.ready).sound

pub returns-clause-state : goal.returns-clause-state
returns-clause-state c =
    let s = c.self.inside in
    let may = subst (λ (d : InstrumentedData). (state_of d.state.placer c.args.number.n ≡ Placing) ⊎ (state_of d.state.placer c.args.number.n ≡ Armed)) (sym c.self.view_is) c.requires in
    let kept = dropped_kept s.machine s.placer c.drop.new.self c.args.number.n c.self.invariant may c.drop.ensures.placements c.drop.ensures.ready in
    returned (Drops c.args.number.n) s.machine s.machine s.placer c.drop.new.self c.args.self.now c.self.view_is kept c.drop.ensures.ready
