use Rattle.std.proofs.Common.{◌≡◌, ℕ, List, map, ap, sym, ◌∙◌, subst}
use Rattle.std.specs.List.{filter}
use Rattle.std.proofs.lemmas.Result.{IfOk-weaker}
use Rattle.pn_types.specs.declared.code.Point.{Point}
use Rattle.mdl_plan.specs.Indexes.{gathered}
use Rattle.mdl_plan.specs.ChosenPieces.{has_numbers, IsOver}
use Rattle.mdl_plan.proofs.ChosenPlaces.{all_reached}
use Rattle.mdl_plan.proofs.planner.Planner.reached.Goals as goal

pub returns-clause-points : goal.returns-clause-points
returns-clause-points c =
    let t = c.args.self.now.chosen in
    let points = c.args.index.now.points in
    let by_proc = c.places.result.now in
    IfOk-weaker c.points_at.result (λ found. map (λ p. p.now) found.items ≡ gathered c.points.result.now c.deref.result.now)
    (λ found. filter (has_numbers t) (map (λ p. p.now) found.items) ≡ filter (has_numbers t) points)
    (λ found e.
    ap (filter (has_numbers t)) (e ∙ ap (λ (l : List Point). gathered l c.deref.result.now) c.points.ensures.points ∙ ap (gathered points) c.deref.ensures.value)
    ∙ all_reached t points by_proc c.in_ok-places.places.items c.places.ensures.places (subst (λ (n : ℕ). IsOver n t) (sym c.places.ensures.many) c.requires) c.in_ok-places.ensures)
    c.points_at.ensures
