use Rattle.std.proofs.Common.{◌≡◌, Some, ◌∙◌, ap, sym, subst}
use Rattle.std.specs.Prelude.{map}
use Rattle.std.specs.Option.{option_map}
use Rattle.rv_exec.specs.Shared.{prog_in}
use Rattle.code_store.specs.Stores.{StoredCode}
use Rattle.machine.specs.Cores.{Core, Live, Retired, Row}
use Rattle.machine.specs.Effects.{at_set, lead_to, mini_unlinked, with_status}
use Rattle.machine.specs.Events.{HasMini, UnlinkMini, before, next_of, row_at}
use Rattle.machine.specs.States.{Machine, with_core}
use Rattle.machine.specs.Views.{BlockList, core_of, row_of}
use Rattle.machine.proofs.Calls.{all_link, before_own, found_links, own_mini, relinked}
use Rattle.machine.proofs.machine.Machine.unlink_mini.Goals as goal

pub before-requires-clause-links : goal.before-requires-clause-links
before-requires-clause-links c =
    let m = c.self.inside in
    all_link m.harts.items (prog_in m.shared) m.store m.blocks m.budget c.self.invariant

pub before-requires-clause-of_point : goal.before-requires-clause-of_point
before-requires-clause-of_point c =
    let m = c.self.inside in
    let may = subst (λ (z : Machine). HasMini z.core c.args.point c.args.at Live) (sym c.self.view_is) c.requires in
    λ r h e. before_own m.harts.items (prog_in m.shared) m.store m.blocks m.budget c.self.invariant c.args.point c.args.at may r h e

pub row_at-requires : goal.row_at-requires
row_at-requires c =
    let m = c.self.inside in
    own_mini m.harts.items (prog_in m.shared) m.store m.blocks m.budget c.self.invariant c.args.point c.args.at Live (subst (λ (z : Machine). HasMini z.core c.args.point c.args.at Live) (sym c.self.view_is) c.requires)

pub next_of-next-requires : goal.next_of-next-requires
next_of-next-requires c =
    let m = c.self.inside in
    found_links m.harts.items (prog_in m.shared) m.store m.blocks m.budget c.self.invariant _ (row_of c.in-Some-row_at.mini) (sym c.row_at.ensures ∙ ap (option_map row_of) c.in-Some-row_at.is)

pub set_status-requires : goal.set_status-requires
set_status-requires c =
    let m = c.self.inside in
    own_mini m.harts.items (prog_in m.shared) m.store m.blocks m.budget c.self.invariant c.args.point c.args.at Live (subst (λ (z : Machine). HasMini z.core c.args.point c.args.at Live) (sym c.self.view_is) c.requires)

pub lead_to-requires : goal.lead_to-requires
lead_to-requires c =
    let m = c.self.inside in
    found_links m.harts.items (prog_in m.shared) m.store m.blocks m.budget c.self.invariant _ (row_of c.in-Some.holder) (sym c.before-2.ensures ∙ ap (option_map row_of) c.in-Some.is)

-- what the two searches find
found : (c : Core) (at : _) (holder mini : Row) → before c at ≡ Some holder → row_at c.rows at ≡ Some mini → mini_unlinked (before c at) (row_at c.rows at) at c ≡ record c { code = lead_to holder (next_of c.code mini) c.code; rows = map (with_status (at_set at Retired)) c.rows }
found c at holder mini e f = ap (λ o. mini_unlinked o (row_at c.rows at) at c) e ∙ ap (λ o. mini_unlinked (Some holder) o at c) f

pub invariant_of-self : goal.invariant_of-self
invariant_of-self c =
    let m = c.self.inside in
    let prog = prog_in m.shared in
    let core = core_of m.harts.items prog m.store m.blocks.rows m.budget in
    let p = c.args.point in
    let at = c.args.at in
    let holder = row_of c.in-Some.holder in
    let mini = row_of c.in-Some-row_at.mini in
    relinked m.harts.items prog m.store m.blocks m.budget c.self.invariant (UnlinkMini p at) (lead_to holder (next_of m.store.code mini) m.store.code) (at_set at Retired) c.lead_to.new.store c.set_status.new.self
    (subst (λ (z : Machine). HasMini z.core p at Live) (sym c.self.view_is) c.requires)
    (sym (found core at holder mini (sym c.before-2.ensures ∙ ap (option_map row_of) c.in-Some.is) (sym c.row_at.ensures ∙ ap (option_map row_of) c.in-Some-row_at.is)))
    (c.lead_to.ensures ∙ ap (λ n. record m.store { code = lead_to holder n m.store.code }) c.next_of-next.ensures)
    c.set_status.ensures

pub returns-in-Some-row_at : goal.returns-in-Some-row_at
returns-in-Some-row_at c =
    let m = c.self.inside in
    let prog = prog_in m.shared in
    let core = core_of m.harts.items prog m.store m.blocks.rows m.budget in
    let at = c.args.at in
    let holder = row_of c.in-Some.holder in
    let mini = row_of c.in-Some-row_at.mini in
    let code = lead_to holder (next_of m.store.code mini) m.store.code in
    let store = c.lead_to.ensures ∙ ap (λ n. record m.store { code = lead_to holder n m.store.code }) c.next_of-next.ensures in
    ap (λ (s : StoredCode). record { core = core_of m.harts.items prog s c.set_status.new.self.rows m.budget; room = c.set_status.new.self.room }) store
    ∙ ap (λ (b : BlockList). record { core = core_of m.harts.items prog (record m.store { code = code }) b.rows m.budget; room = b.room }) c.set_status.ensures
    ∙ ap (λ (k : Core). record { core = k; room = m.blocks.room }) (sym (found core at holder mini (sym c.before-2.ensures ∙ ap (option_map row_of) c.in-Some.is) (sym c.row_at.ensures ∙ ap (option_map row_of) c.in-Some-row_at.is)))
    ∙ ap (λ (z : Machine). with_core z (mini_unlinked (before z.core at) (row_at z.core.rows at) at z.core)) c.self.view_is
