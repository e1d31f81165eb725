use Rattle.std.proofs.Common.{false, get_or, map, ◌∙◌}
use Rattle.pn_types.specs.declared.code.Point.{Point}
use Rattle.mdl_plan.proofs.PointPlaces.{next_place, placed_many}
use Rattle.mdl_plan.proofs.index.places_of.Goals as goal

pub loop-place-preserved : goal.loop-place-preserved
loop-place-preserved c =
    let i = c.loop-place.place in
    let d : Point = record { at = 0; proc_no = 0; entry = false; after = false; ret = false; call = false } in
    let p = get_or c.args.points.now i d in
    record {
      many = placed_many (λ l. l.items) c.loop-place.places.items c.add_place.new.places.items p.proc_no i c.in_ok-add_place.ensures ∙ c.loop-place.invariant.many;
      so_far =
          next_place c.args.points.now i d (map (λ l. l.items) c.loop-place.places.items) (map (λ l. l.items) c.add_place.new.places.items)
          c.loop-place-test.true c.in_ok-add_place.ensures c.loop-place.invariant.so_far;
    }
