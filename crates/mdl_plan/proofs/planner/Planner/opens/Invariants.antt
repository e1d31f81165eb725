use Rattle.std.proofs.Common.{◌≡◌, map, take}
use Rattle.mdl_plan.specs.ChosenPieces.{opens_with}
use Rattle.mdl_plan.proofs.planner.Planner.opens.Given as goal

abbrev pub invariant-loop-point : goal.invariant-loop-point
invariant-loop-point l = l.opens.items ≡ opens_with l.self.terms l.self.pieces.items l.self.chosen l.procs (take l.point-index (map (λ p. p.now) l.points))
