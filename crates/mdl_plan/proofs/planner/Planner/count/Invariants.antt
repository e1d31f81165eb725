use Rattle.std.proofs.Common.{◌≡◌, ◌+◌, length, map, drop}
use Rattle.std.specs.List.{filter}
use Rattle.mdl_plan.specs.ChosenPieces.{has_numbers}
use Rattle.mdl_plan.proofs.planner.Planner.count.Given as goal

abbrev pub invariant-loop-point : goal.invariant-loop-point
invariant-loop-point l = l.count + length (filter (has_numbers l.self.chosen) (drop l.point-index (map (λ p. p.now) l.points))) ≡ length (filter (has_numbers l.self.chosen) (map (λ p. p.now) l.points))
