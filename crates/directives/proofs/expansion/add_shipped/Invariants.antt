use Rattle.std.proofs.Common.{◌≡◌, ◌++◌, flat_map, take}
use Rattle.directives.specs.Acts.{at_line}
use Rattle.directives.proofs.expansion.add_shipped.Given as goal

abbrev pub invariant-loop-item : goal.invariant-loop-item
invariant-loop-item l = l.items.items ≡ l.fn.items.items ++ flat_map (at_line l.line) (take l.item-index l.shipped)
