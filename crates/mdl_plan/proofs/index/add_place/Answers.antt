use Rattle.mdl_plan.proofs.PointPlaces.{placed_there}
use Rattle.mdl_plan.proofs.index.add_place.Goals as goal

pub returns-in_ok-push : goal.returns-in_ok-push
returns-in_ok-push c =
    placed_there (λ l. l.items) c.args.places.now.items c.args.proc_no c.args.place c.in-Some.list.now c.push.new.self c.in-Some.ensures.item.3.0 c.in-Some.ensures.value c.in_ok-push.ensures.items
