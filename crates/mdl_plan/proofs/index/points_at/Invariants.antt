use Rattle.std.proofs.Common.{◌≡◌, map, take}
use Rattle.mdl_plan.specs.Indexes.{gathered}
use Rattle.mdl_plan.proofs.index.points_at.Given as goal

abbrev pub invariant-loop-place : goal.invariant-loop-place
invariant-loop-place l = map (λ p. p.now) l.found.items ≡ gathered l.points (take l.place-index l.places)
