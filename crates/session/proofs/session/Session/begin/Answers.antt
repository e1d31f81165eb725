use Rattle.std.proofs.Common.{◌≡◌, ◌∙◌, List, [], sym, ap, subst, arith}
use Rattle.std.specs.Prelude.{false, filter, not, ◌==◌}
use Rattle.pn_types.specs.declared.quantum.Quantum.{Quantum}
use Rattle.mdl_check.specs.declared.checked.CheckedWish.{CheckedWish}
use Rattle.session_spec.specs.Inputs.{Inputs, by_tick, later_wishes}
use Rattle.session.specs.Kept.{IsTableAfter}
use Rattle.session.specs.Sessions.{new_session}
use Rattle.session.proofs.Begun.{fails, never}
use Rattle.session.proofs.session.Session.begin.Goals as goal

abbrev later_of : List CheckedWish → List CheckedWish
later_of ws = by_tick (filter (λ w. not (w.at == 0)) ws)

pub invariant_of-result : goal.invariant_of-result
invariant_of-result c =
    let i = c.args.inputs in
    let all = c.as_slice.ensures ∙ ap (λ (x : Inputs). x.checked.wishes) c.inputs.view_is in
    let later : c.in_ok-wishes.wishes.items ≡ later_wishes i = c.in_ok-wishes.ensures ∙ ap later_of all in
    let kept : IsTableAfter i [] false c.in_ok-wishes.wishes.items c.in_ok-stored.stored = subst (λ (ws : List CheckedWish). IsTableAfter i [] false ws c.in_ok-stored.stored) (sym later) c.in_ok-stored.ensures.kept in
    (subst (λ (quanta : List Quantum). IsTableAfter i quanta false c.in_ok-wishes.wishes.items c.in_ok-stored.stored) (sym c.new.ensures.items) kept, omega arith, c.opened.ensures.known)

pub returns-in_err-wishes-clause-refused : goal.returns-in_err-wishes-clause-refused
returns-in_err-wishes-clause-refused c = fails c.args.inputs c.from_residual-in_err-wishes.result c.from_residual-in_err-wishes.ensures.1

pub returns-in_err-wishes-clause-begun : goal.returns-in_err-wishes-clause-begun
returns-in_err-wishes-clause-begun c =
    never (λ session. session ≡ new_session c.args.inputs) _ c.from_residual-in_err-wishes.result c.from_residual-in_err-wishes.ensures.1
