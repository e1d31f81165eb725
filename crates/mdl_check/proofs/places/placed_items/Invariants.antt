use Rattle.std.proofs.Common.{◌≡◌, take, flat_map}
use Rattle.mdl_check.specs.Placed.{with_included}
use Rattle.mdl_check.proofs.places.placed_items.Given as goal

abbrev pub invariant-loop-item : goal.invariant-loop-item
invariant-loop-item l = l.all.items ≡ flat_map (with_included l.shipped) (take l.item-index l.items)
