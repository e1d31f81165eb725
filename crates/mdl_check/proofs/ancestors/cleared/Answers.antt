use Rattle.std.proofs.Common.{map, ◌∙◌}
use Rattle.std.proofs.lemmas.List.{length-map}
use Rattle.mdl_check.proofs.Clearing.{at_first}
use Rattle.mdl_check.proofs.ancestors.cleared.Goals as goal

pub loop-place-init : goal.loop-place-init
loop-place-init c =
    at_first c.args.parents.now (map (λ l. l.items) c.in_ok-children.children.items) c.in_ok-clear.clear.items
    (length-map c.in_ok-children.children.items (λ l. l.items) ∙ c.in_ok-children.ensures.many) c.in_ok-children.ensures.children c.in_ok-clear.ensures

pub climb-requires : goal.climb-requires
climb-requires c = c.loop-place.invariant

pub loop-place-preserved : goal.loop-place-preserved
loop-place-preserved c = c.climb.ensures

pub returns : goal.returns
returns c = c.loop-place.invariant.clear_are
