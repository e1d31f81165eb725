use Rattle.std.proofs.Common.{◌≡◌, map, take}
use Rattle.mdl_check.specs.Rules.{parent_place}
use Rattle.mdl_check.proofs.ancestors.parents_of.Given as goal

abbrev pub invariant-loop-entry : goal.invariant-loop-entry
invariant-loop-entry l = l.parents.items ≡ map (λ e. parent_place l.index e.item) (take l.entry-index l.entry-items)
