use Rattle.mdl_check.specs.Ancestry.{KeepsOthers}
use Rattle.mdl_check.proofs.ancestors.drop_clear.Given as goal

abbrev pub invariant-loop-child : goal.invariant-loop-child
invariant-loop-child l = KeepsOthers l.clear l.fn.children.items l.children.items
