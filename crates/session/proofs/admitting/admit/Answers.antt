use Rattle.std.proofs.Common.{ap, sym, subst, ◌∙◌, arith}
use Rattle.session.specs.Tables.{IsCount, StateTable}
use Rattle.session.proofs.Admitted.{no_admission, one_admission}
use Rattle.session.proofs.Counting.{count_low, take_in, take_many}
use Rattle.session.proofs.admitting.admit.Goals as goal

pub returns-then-not-stored-clause-ok : goal.returns-then-not-stored-clause-ok
returns-then-not-stored-clause-ok c = no_admission c.args.inputs.now c.args.wishes.now c.args.stored.now (sym (ap (λ (t : StateTable). t.worked) c.stored.view_is) ∙ c.if-not-stored.true) c.requires.live

pub slice_bounds-admit-end : goal.slice_bounds-admit-end
slice_bounds-admit-end c = take_many c.count_due-due.result c.args.wishes.now (count_low _ c.args.wishes.now c.count_due-due.result c.count_due-due.ensures)

pub admit-requires-clause-wishes : goal.admit-requires-clause-wishes
admit-requires-clause-wishes c w h = c.requires.wishes w (take_in c.count_due-due.result c.args.wishes.now w h)

pub admit-requires-clause-few : goal.admit-requires-clause-few
admit-requires-clause-few c =
    let few = c.requires.few in
    let low = count_low _ c.args.wishes.now c.count_due-due.result c.count_due-due.ensures in
    let len = take_many c.count_due-due.result c.args.wishes.now low in
    omega arith

pub returns-clause-ok : goal.returns-clause-ok
returns-clause-ok c =
    let worked = sym (ap (λ (t : StateTable). t.worked) c.stored.view_is) ∙ c.if-not-stored.false in
    let count = subst (λ (t : StateTable). IsCount t.time c.args.wishes.now c.count_due-due.result) c.stored.view_is c.count_due-due.ensures in
    let e = c.in_ok-admit.ensures in
    one_admission c.args.inputs.now c.args.wishes.now c.count_due-due.result c.args.stored.now c.admit.new.self c.rest.new.self worked count e.kept e.pairs e.few e.still e.live c.rest.ensures
