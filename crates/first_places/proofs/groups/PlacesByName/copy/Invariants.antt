use Rattle.std.proofs.Common.{◌≡◌, take}
use Rattle.first_places.proofs.groups.PlacesByName.copy.Given as goal

abbrev pub invariant-loop-name : goal.invariant-loop-name
invariant-loop-name l = l.copy ≡ take l.name-index l.self
