use Rattle.std.proofs.Common.{◌≡◌, take}
use Rattle.first_places.proofs.places.FirstPlaces.of.Given as goal

abbrev pub invariant-loop-name : goal.invariant-loop-name
invariant-loop-name l = l.places ≡ take l.name-index l.names
