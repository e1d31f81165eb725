use Rattle.std.proofs.Common.{◌≡◌, take, flat_map}
use Rattle.first_places.specs.Groups.{places_of}
use Rattle.mdl_plan.specs.Scopes.{names_of}
use Rattle.mdl_plan.proofs.index.PlanIndex.with_any.Given as goal

abbrev pub invariant-loop-name : goal.invariant-loop-name
invariant-loop-name l = l.all.items ≡ flat_map (λ name. places_of name (names_of l.self.procs)) (take l.name-index l.names)
