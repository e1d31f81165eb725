use Rattle.std.proofs.Common.{◌≡◌, take}
use Rattle.directives.specs.Acts.{expanded}
use Rattle.directives.proofs.expansion.expanded.Given as goal

abbrev pub invariant-loop-item : goal.invariant-loop-item
invariant-loop-item l = l.all.items ≡ expanded l.shipped (take l.item-index l.items)
