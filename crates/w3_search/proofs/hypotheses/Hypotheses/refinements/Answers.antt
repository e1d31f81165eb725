use Rattle.std.proofs.Common.{[], List, ap, ◌∙◌}
use Rattle.std.specs.Option.{option_map_or}
use Rattle.mdl_ast.specs.declared.items.Hypothesis.{Hypothesis}
use Rattle.w3_search.specs.Refining.{refinements}
use Rattle.w3_search.proofs.hypotheses.Hypotheses.refinements.Goals as goal

pub returns-in-Some : goal.returns-in-Some
returns-in-Some c =
    c.as_slice.ensures.value
    ∙ ap (λ o. option_map_or (λ v. v.items) o []) c.in-Some.ensures.value
    ∙ c.self.invariant.below c.args.name.now
    ∙ ap (λ (hs : List Hypothesis). refinements hs c.args.name.now) c.self.view_is

pub returns-in-None : goal.returns-in-None
returns-in-None c =
    ap (λ o. option_map_or (λ v. v.items) o []) c.in-None.ensures.value
    ∙ c.self.invariant.below c.args.name.now
    ∙ ap (λ (hs : List Hypothesis). refinements hs c.args.name.now) c.self.view_is
