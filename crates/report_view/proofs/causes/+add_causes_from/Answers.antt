use Rattle.std.proofs.Common.{◌-◌, ◌++◌, ℕ, List, sym, ap, ◌∙◌}
use Rattle.report_view.specs.Causes.{causes_at, causes_from}
use Rattle.report_view.proofs.CausesDown.{at_the_roots, one_less}
use Rattle.report_view.proofs.Joins.{join}
use Rattle.report_view.proofs.causes.+add_causes_from.Goals as goal

pub returns : goal.returns
returns t c =
    let parts = c.args.parts.now in
    let causes = c.args.causes.now in
    let depth = c.args.depth in
    let old = c.args.out.now.items in
    join old c.add_causes_at.new.out.items c.add_causes_from.new.out.items (causes_at parts causes depth) (causes_from parts causes (depth - 1))
    c.in_ok-add_causes_at.ensures c.in_ok-add_causes_from.ensures
    ∙ ap (λ (z : List ℕ). old ++ z) (sym (one_less parts causes depth c.if-depth-eq0.false))

pub returns-then-depth-eq0 : goal.returns-then-depth-eq0
returns-then-depth-eq0 t c =
    c.in_ok-add_causes_at.ensures
    ∙ ap (λ (z : List ℕ). c.args.out.now.items ++ z) (sym (at_the_roots c.args.parts.now c.args.causes.now c.args.depth c.if-depth-eq0.true))
