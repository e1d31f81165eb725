use Rattle.std.proofs.Common.{map}
use Rattle.mdl_check.specs.Ancestry.{IsAncestry}
use Rattle.mdl_check.proofs.ancestors.climb.Given as goal

abbrev pub invariant-loop-step : goal.invariant-loop-step
invariant-loop-step l = IsAncestry l.parents (map (λ l. l.items) l.children.items) l.clear.items
