use Rattle.std.proofs.Common.{◌≡◌, ◌++◌, take, flat_map}
use Rattle.mdl_check.specs.Checking.{sync_of}
use Rattle.mdl_check.proofs.configuration.add_prefixes.Given as goal

abbrev pub invariant-loop-place : goal.invariant-loop-place
invariant-loop-place l = l.prefixes.items ≡ l.initial.prefixes.items ++ flat_map (λ place. sync_of place.item) (take l.place-index l.places)
