use Rattle.std.proofs.Common.{◌≡◌, ◌∙◌, ◌+◌, ◌≤◌, List, ap, subst, length}
use Rattle.std.specs.Prelude.{filter, ◌==◌}
use Rattle.mdl_check.specs.declared.checked.CheckedWish.{CheckedWish}
use Rattle.machine.specs.Cores.{In}
use Rattle.session_spec.specs.Inputs.{Inputs, first_wishes}
use Rattle.session_spec.specs.Opening.{first_refused, with_all}
use Rattle.session_spec.specs.Tests.{taken_at_once, with_tests}
use Rattle.session.specs.Kept.{IsAdmitted}
use Rattle.session.specs.Tables.{kept_of}
use Rattle.session.proofs.Begun.{first_costs, first_few, first_given, first_program, first_rules, wished_is, wished_refused}
use Rattle.session.proofs.starting.admitted.Goals as goal

abbrev wishes_at_0 : List CheckedWish → List CheckedWish
wishes_at_0 ws = filter (λ w. w.at == 0) ws

pub admit-requires-clause-wishes : goal.admit-requires-clause-wishes
admit-requires-clause-wishes c w h =
    let all = c.as_slice.ensures ∙ ap (λ (x : Inputs). x.checked.wishes) c.inputs.view_is in
    first_given c.args.inputs.now c.requires.given w (subst (λ (l : List CheckedWish). In w l) (c.deref.ensures.value ∙ (c.in_ok-wishes.ensures ∙ ap wishes_at_0 all)) h)

pub admit-requires-clause-program : goal.admit-requires-clause-program
admit-requires-clause-program c = first_program c.args.inputs.now c.in_ok-stored.stored c.in_ok-stored.ensures.first

pub admit-requires-clause-rules : goal.admit-requires-clause-rules
admit-requires-clause-rules c = first_rules c.args.inputs.now c.in_ok-stored.stored c.in_ok-stored.ensures.first

pub admit-requires-clause-costs : goal.admit-requires-clause-costs
admit-requires-clause-costs c = first_costs c.args.inputs.now c.in_ok-stored.stored c.in_ok-stored.ensures.first

pub admit-requires-clause-few : goal.admit-requires-clause-few
admit-requires-clause-few c =
    let all = c.as_slice.ensures ∙ ap (λ (x : Inputs). x.checked.wishes) c.inputs.view_is in
    first_few c.args.inputs.now c.in_ok-stored.stored c.in_ok-stored.ensures.first c.requires.given c.deref.result.now (c.deref.ensures.value ∙ (c.in_ok-wishes.ensures ∙ ap wishes_at_0 all))

pub returns-clause-admitted : goal.returns-clause-admitted
unfolding IsAdmitted
returns-clause-admitted c =
    let i = c.args.inputs.now in
    let e = c.in_ok-admit.ensures in
    let all = c.as_slice.ensures ∙ ap (λ (x : Inputs). x.checked.wishes) c.inputs.view_is in
    let first : c.deref.result.now ≡ first_wishes i = c.deref.ensures.value ∙ (c.in_ok-wishes.ensures ∙ ap wishes_at_0 all) in
    let d = c.in_ok-stored.stored in
    wished_is i d c.admit.new.self c.in_ok-stored.ensures.first c.requires.given c.in_ok-stored.ensures.narrow (λ ws. e.kept ws ∙ ap (λ l. with_tests i (with_all i l (kept_of ws d))) first) e.pairs
    (subst (λ (l : List CheckedWish). length c.admit.new.self.pairs ≤ length d.pairs + length l + taken_at_once) first e.few) e.live e.still c.in_ok-stored.ensures.program

pub returns-clause-picked : goal.returns-clause-picked
returns-clause-picked c =
    let i = c.args.inputs.now in
    let e = c.in_ok-admit.ensures in
    let all = c.as_slice.ensures ∙ ap (λ (x : Inputs). x.checked.wishes) c.inputs.view_is in
    let first : c.deref.result.now ≡ first_wishes i = c.deref.ensures.value ∙ (c.in_ok-wishes.ensures ∙ ap wishes_at_0 all) in
    let d = c.in_ok-stored.stored in
    ap first_refused (wished_refused i d c.admit.new.self c.in_ok-stored.ensures.first (λ ws. e.kept ws ∙ ap (λ l. with_tests i (with_all i l (kept_of ws d))) first))
