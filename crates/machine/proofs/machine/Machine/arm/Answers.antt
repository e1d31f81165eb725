use Rattle.std.proofs.Common.{◌≡◌, ◌∙◌, sym, ap, subst, length}
use Rattle.std.specs.Prelude.{map}
use Rattle.std.proofs.lemmas.List.{length-map, with_items_is}
use Rattle.rv_exec.specs.Shared.{prog_in}
use Rattle.machine.specs.Events.{MayArm}
use Rattle.machine.specs.Effects.{armed_in}
use Rattle.machine.specs.States.{Machine}
use Rattle.machine.specs.Views.{AreMachineParts}
use Rattle.machine.proofs.Taking.{armed_sound}
use Rattle.machine.proofs.machine.Machine.arm.Goals as goal

pub invariant_of-self : goal.invariant_of-self
invariant_of-self c =
    let s = c.self.inside in
    let p = prog_in s.shared in
    let i = c.args.instrument.now in
    let vec = s.harts in
    let may : MayArm _ i = subst (λ (m : Machine). MayArm m.core i) (sym c.self.view_is) (c.may_arm.ensures.0 c.if-not-may_arm.false) in
    let new : c.arm_harts.new.harts ≡ map (armed_in s.shared.mem i) vec.items = c.arm_harts.ensures ∙ ap (map (armed_in s.shared.mem i)) c.deref_mut.ensures.value in
    let len : length c.arm_harts.new.harts ≡ vec.len = ap length new ∙ (length-map vec.items (armed_in s.shared.mem i) ∙ sym vec.ok.0) in
    subst (λ harts. AreMachineParts harts p s.store s.blocks.rows s.budget) (sym (with_items_is vec c.arm_harts.new.harts len ∙ new)) (armed_sound vec.items p s.store s.blocks.rows s.budget i c.self.invariant may)
