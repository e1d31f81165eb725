use Rattle.std.proofs.Common.{◌≡◌, ◌++◌, take, map, filter}
use Rattle.mdl_check.specs.Placed.{placed_item, is_taken}
use Rattle.mdl_check.proofs.places.add_included.Given as goal

abbrev pub invariant-loop-item : goal.invariant-loop-item
invariant-loop-item l = l.placed_items.items ≡ l.fn.placed_items.items ++ map (placed_item l.include.line) (filter (is_taken l.include.metrics) (take l.item-index l.shipped))
