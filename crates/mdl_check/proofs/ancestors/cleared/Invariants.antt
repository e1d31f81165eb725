use Rattle.std.proofs.Common.{map}
use Rattle.mdl_check.specs.Ancestry.{IsAncestry}
use Rattle.mdl_check.proofs.ancestors.cleared.Given as goal

abbrev pub invariant-loop-place : goal.invariant-loop-place
invariant-loop-place l = IsAncestry l.parents (map (λ l. l.items) l.children.items) l.clear.items
