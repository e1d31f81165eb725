use Rattle.std.proofs.Common.{◌∙◌, ap, sym, subst}
use Rattle.std.specs.Option.{option_map}
use Rattle.rv_exec.specs.Shared.{prog_in}
use Rattle.machine.specs.Cores.{Live, Written}
use Rattle.machine.specs.Effects.{at_set, lead_to, mini_linked}
use Rattle.machine.specs.Events.{LinkMini, MayLinkMini}
use Rattle.machine.specs.States.{Machine}
use Rattle.machine.specs.Views.{core_of, row_of}
use Rattle.machine.proofs.Calls.{found_links, own_mini, relinked}
use Rattle.machine.proofs.machine.Machine.link_mini.Goals as goal

pub lead_to-requires : goal.lead_to-requires
lead_to-requires c =
    let m = c.self.inside in
    found_links m.harts.items (prog_in m.shared) m.store m.blocks m.budget c.self.invariant _ (row_of c.in-Some.base) (sym c.current_base.ensures ∙ ap (option_map row_of) c.in-Some.is)

pub set_status-requires : goal.set_status-requires
set_status-requires c =
    let m = c.self.inside in
    let may = subst (λ (z : Machine). MayLinkMini z.core c.args.point c.args.at) (sym c.self.view_is) c.requires in
    own_mini m.harts.items (prog_in m.shared) m.store m.blocks m.budget c.self.invariant c.args.point c.args.at Written may.mini

pub invariant_of-self : goal.invariant_of-self
invariant_of-self c =
    let m = c.self.inside in
    let prog = prog_in m.shared in
    let p = c.args.point in
    let at = c.args.at in
    let found = sym c.current_base.ensures ∙ ap (option_map row_of) c.in-Some.is in
    relinked m.harts.items prog m.store m.blocks m.budget c.self.invariant (LinkMini p at) (lead_to (row_of c.in-Some.base) at m.store.code) (at_set at Live) c.lead_to.new.store c.set_status.new.self
    (subst (λ (z : Machine). MayLinkMini z.core p at) (sym c.self.view_is) c.requires)
    (sym (ap (λ o. mini_linked o at (core_of m.harts.items prog m.store m.blocks.rows m.budget)) found))
    c.lead_to.ensures
    c.set_status.ensures
