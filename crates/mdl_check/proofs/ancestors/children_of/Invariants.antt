use Rattle.std.proofs.Common.{◌≡◌, length, map}
use Rattle.mdl_check.specs.Ancestry.{HaveChildren}
use Rattle.mdl_check.proofs.ancestors.children_of.Given as goal

abbrev pub invariant-loop-place : goal.invariant-loop-place
invariant-loop-place l = record {
  many : length l.children.items ≡ length l.parents;
  children : HaveChildren l.place l.parents (map (λ l. l.items) l.children.items);
}
