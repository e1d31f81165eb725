use Rattle.std.proofs.Common.{◌≡◌, Some, None, get_or, sym, ap, subst, arith}
use Rattle.instrument.specs.RoomPlaces.{RoomEntries, RoomPlaces}
use Rattle.instrument.proofs.RoomLists.{indexed_remove, left_fewer}
use Rattle.instrument.proofs.room_list.Rooms.remove.Goals as goal

pub overflow_sub-self : goal.overflow_sub-self
overflow_sub-self c =
    let there = subst (λ (r : RoomPlaces). get_or r.places c.args.place None ≡ Some c.requires.0) (sym c.self.view_is) c.requires.1 in
    omega (arith, c.self.invariant.counted, left_fewer c.self.inside.places.items c.args.place c.requires.0 there)

pub invariant_of-self : goal.invariant_of-self
invariant_of-self c =
    let there = subst (λ (r : RoomPlaces). get_or r.places c.args.place None ≡ Some c.requires.0) (sym c.self.view_is) c.requires.1 in
    record {
      indexed = indexed_remove c.self.inside.places.items c.args.place c.self.inside.index c.remove.new.self c.self.invariant.indexed (ap (λ (i : RoomEntries). i.points) c.remove.ensures) (ap (λ (i : RoomEntries). i.addresses) c.remove.ensures) (ap (λ (i : RoomEntries). i.owners) c.remove.ensures);
      counted = omega (arith, c.self.invariant.counted, left_fewer c.self.inside.places.items c.args.place c.requires.0 there);
      memory = c.self.invariant.memory;
      room = omega (arith, c.self.invariant.room, ap (λ (i : RoomEntries). i.room) c.remove.ensures);
    }
