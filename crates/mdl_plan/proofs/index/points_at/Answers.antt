use Rattle.std.proofs.Common.{◌∷◌, [], ◌++◌, List, get_or, map, take, sym, ap, ◌∙◌, append-nil}
use Rattle.std.proofs.lemmas.List.{map-append}
use Rattle.pn_types.specs.declared.code.Point.{Point}
use Rattle.mdl_plan.specs.Indexes.{gathered}
use Rattle.mdl_plan.proofs.PointPlaces.{gathered_more, gathered_none, gathered_one}
use Rattle.mdl_plan.proofs.index.points_at.Goals as goal
use Rattle.mdl_plan.proofs.index.points_at.Goals.{in-Some+in_ok-push, in_default}

pub loop-place-preserved : goal.loop-place-preserved
loop-place-preserved c =
    let points = c.args.points.now in
    let k = c.loop-place.place-index in
    let i = get_or c.args.places.now k 0 in
    let before = gathered points (take k c.args.places.now) in
    let more = gathered_more points c.args.places.now k c.loop-place-test.true in
    elim c.match-get.branch [
      | in-Some+in_ok-push w ↦
          let p = w.in-Some.point.now in
          ap (λ v. map (λ r. r.now) v.items) w.found-is
          ∙ ap (map (λ r. r.now)) w.in_ok-push.ensures.items
          ∙ map-append (λ r. r.now) c.loop-place.found.items (w.in-Some.point ∷ [])
          ∙ ap (λ (l : List Point). l ++ p ∷ []) c.loop-place.invariant
          ∙ ap (λ (l : List Point). before ++ l) (sym (gathered_one points i p w.in-Some.ensures.lookup.3.0 w.in-Some.ensures.lookup.1))
          ∙ sym more
      | in_default w ↦
          ap (λ v. map (λ r. r.now) v.items) w.found-is
          ∙ c.loop-place.invariant
          ∙ sym (ap (λ (l : List Point). before ++ l) (gathered_none points i w.in_default.ensures.lookup.3) ∙ append-nil before)
          ∙ sym more
    ]
