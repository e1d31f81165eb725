use Rattle.std.proofs.Common.{◌++◌, ℕ, ap, ◌∙◌}
use Rattle.std.specs.Prelude.{codes}
use Rattle.report_view.specs.Causes.{causes_from, some_causes}
use Rattle.report_view.proofs.Joins.{join}
use Rattle.report_view.proofs.causes.add_some_causes.Goals as goal

pub returns : goal.returns
unfolding some_causes
returns c =
    let parts = c.args.parts.now in
    let causes = c.args.causes.now in
    let old = c.args.out.now.items in
    let table_heading = codes "causes at all harts, the deepest first\n" in
    join old c.extend_from_slice.new.self.items c.add_causes_from.new.out.items table_heading (causes_from parts causes c.deepest.result)
    c.in_ok-extend_from_slice.ensures.items c.in_ok-add_causes_from.ensures
    ∙ ap (λ (n : ℕ). old ++ (table_heading ++ causes_from parts causes n)) c.deepest.ensures
