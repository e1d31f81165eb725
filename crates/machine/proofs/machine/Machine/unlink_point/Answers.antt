use Rattle.std.proofs.Common.{◌∙◌, ap, sym, subst}
use Rattle.std.specs.FinMap.{insert}
use Rattle.rv_exec.specs.Shared.{prog_in}
use Rattle.tramp_spec.specs.Marks.{own}
use Rattle.machine.specs.Effects.{point_unlinked, retired_at}
use Rattle.machine.specs.Events.{IsEntered, UnlinkPoint}
use Rattle.machine.specs.States.{Machine}
use Rattle.machine.specs.Views.{core_of}
use Rattle.machine.proofs.Calls.{relinked}
use Rattle.machine.proofs.machine.Machine.unlink_point.Goals as goal

pub invariant_of-self : goal.invariant_of-self
invariant_of-self c =
    let m = c.self.inside in
    let prog = prog_in m.shared in
    let p = c.args.point in
    let w = c.in-Some.word in
    let found = sym c.program_word.ensures ∙ c.in-Some.is in
    relinked m.harts.items prog m.store m.blocks m.budget c.self.invariant (UnlinkPoint p) (insert m.store.code p (own w)) (retired_at p) c.set_word.new.self c.retire_point.new.self
    (subst (λ (z : Machine). IsEntered z.core p) (sym c.self.view_is) c.requires)
    (sym (ap (λ o. point_unlinked o p (core_of m.harts.items prog m.store m.blocks.rows m.budget)) found))
    (c.set_word.ensures ∙ ap (λ v. record m.store { code = insert m.store.code p v }) c.own.ensures)
    c.retire_point.ensures
