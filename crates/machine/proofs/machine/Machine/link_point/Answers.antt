use Rattle.std.proofs.Common.{◌∙◌, ap, sym, subst}
use Rattle.std.specs.FinMap.{insert}
use Rattle.std.specs.Option.{option_map}
use Rattle.rv_exec.specs.Shared.{prog_in}
use Rattle.tramp_spec.specs.Marks.{enter}
use Rattle.tramp_spec.specs.Jumps.{jump_word}
use Rattle.machine.specs.Cores.{Live}
use Rattle.machine.specs.Effects.{at_set, point_linked}
use Rattle.machine.specs.Events.{LinkPoint, MayLinkPoint}
use Rattle.machine.specs.States.{Machine}
use Rattle.machine.specs.Views.{core_of, row_of}
use Rattle.machine.proofs.Calls.{own_base, relinked}
use Rattle.machine.proofs.machine.Machine.link_point.Goals as goal

pub set_status-requires : goal.set_status-requires
set_status-requires c =
    let m = c.self.inside in
    own_base m.harts.items (prog_in m.shared) m.store m.blocks m.budget c.self.invariant c.args.point (row_of c.in-Some.base) (sym c.current_base.ensures ∙ ap (option_map row_of) c.in-Some.is)

pub invariant_of-self : goal.invariant_of-self
invariant_of-self c =
    let m = c.self.inside in
    let prog = prog_in m.shared in
    let p = c.args.point in
    let base = row_of c.in-Some.base in
    let code = insert m.store.code p (enter (jump_word p base.at)) in
    let found = sym c.current_base.ensures ∙ ap (option_map row_of) c.in-Some.is in
    relinked m.harts.items prog m.store m.blocks m.budget c.self.invariant (LinkPoint p) code (at_set base.at Live) c.set_word.new.self c.set_status.new.self
    (subst (λ (z : Machine). MayLinkPoint z.core p) (sym c.self.view_is) c.requires)
    (sym (ap (λ o. point_linked o p (core_of m.harts.items prog m.store m.blocks.rows m.budget)) found))
    (c.set_word.ensures ∙ ap (λ w. record m.store { code = insert m.store.code p w }) (c.enter.ensures ∙ ap enter c.jump_word.ensures))
    c.set_status.ensures
