use Rattle.std.proofs.Common.{◌∙◌, sym, subst, refl}
use Rattle.std.proofs.lemmas.Bool.{true≢false}
use Rattle.rv_exec.specs.Shared.{prog_in}
use Rattle.machine.specs.Events.{Free, May}
use Rattle.machine.specs.Reached.{IsReached}
use Rattle.machine.specs.States.{Machine}
use Rattle.machine.proofs.Calls.{all_within, freed}
use Rattle.machine.proofs.Inside.{held, let_go}
use Rattle.machine.proofs.machine.Machine.free.Goals as goal

pub returns-then-has_hart_at-clause-may : goal.returns-then-has_hart_at-clause-may
returns-then-has_hart_at-clause-may c = ((λ e. absurd (true≢false (sym e))), (λ may. absurd (held c.args.self.now.core c.args.point (sym c.has_hart_at.ensures ∙ c.if-has_hart_at.true) may)))

pub remove_retired-requires : goal.remove_retired-requires
remove_retired-requires c =
    let m = c.self.inside in
    all_within m.harts.items (prog_in m.shared) m.store m.blocks m.budget c.self.invariant

pub invariant_of-self : goal.invariant_of-self
invariant_of-self c =
    let m = c.self.inside in
    let now = c.args.self.now in
    let may = let_go now.core c.args.point (subst (λ (z : Machine). IsReached z.core) c.self.view_is c.self.invariant.reached) (sym c.has_hart_at.ensures ∙ c.if-has_hart_at.false) in
    freed m.harts.items (prog_in m.shared) m.store m.blocks m.budget c.self.invariant c.args.point c.remove_retired.new.store c.remove_retired.new.self
    (subst (λ (z : Machine). May z.core (Free c.args.point)) (sym c.self.view_is) may)
    c.remove_retired.ensures.store c.remove_retired.ensures.rows

pub returns-clause-may : goal.returns-clause-may
returns-clause-may c =
    let now = c.args.self.now in
    let may = let_go now.core c.args.point (subst (λ (z : Machine). IsReached z.core) c.self.view_is c.self.invariant.reached) (sym c.has_hart_at.ensures ∙ c.if-has_hart_at.false) in
    ((λ e. may), (λ m. refl))
