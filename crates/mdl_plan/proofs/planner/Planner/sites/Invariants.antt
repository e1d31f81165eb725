use Rattle.std.proofs.Common.{◌≡◌, None, map, take}
use Rattle.std.specs.List.{find}
use Rattle.mdl_plan.specs.Plans.{is_crowded}
use Rattle.mdl_plan.specs.ChosenPieces.{sites_with}
use Rattle.mdl_plan.proofs.planner.Planner.sites.Given as goal

abbrev pub invariant-loop-point : goal.invariant-loop-point
invariant-loop-point l = record {
  so_far : l.sites.items ≡ sites_with l.self.terms l.self.pieces.items l.self.chosen (take l.point-index (map (λ p. p.now) l.points));
  few : find is_crowded (sites_with l.self.terms l.self.pieces.items l.self.chosen (take l.point-index (map (λ p. p.now) l.points))) ≡ None;
}
