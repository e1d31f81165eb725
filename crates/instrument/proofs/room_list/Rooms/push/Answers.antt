use Rattle.std.proofs.Common.{Some, [], ◌++◌, ◌∷◌, length, sym, ap, subst, ◌∙◌, arith}
use Rattle.std.proofs.lemmas.List.{length-append}
use Rattle.bucket_chains.specs.Left.{present_entries}
use Rattle.instrument.specs.RoomPlaces.{AreIndexed, RoomEntries, RoomPlaces}
use Rattle.bucket_chains.proofs.Nexts.{left_push}
use Rattle.instrument.proofs.RoomLists.{indexed_push, left_few}
use Rattle.instrument.proofs.room_list.Rooms.push.Goals as goal

pub overflow_add-self : goal.overflow_add-self
overflow_add-self c =
    let few = left_few c.self.inside.places.items in
    omega (arith, few, c.self.invariant.counted, c.self.invariant.memory, c.self.inside.places.ok, c.self.inside.places.small)

pub invariant_of-self : goal.invariant_of-self
invariant_of-self c =
    let places = c.self.inside.places.items in
    record {
      indexed = subst (λ ps. AreIndexed ps c.push.new.self) (sym c.push_reserved.ensures.items)
          (indexed_push places (Some c.args.room) c.self.inside.index c.push.new.self c.self.invariant.indexed (ap (λ (i : RoomEntries). i.points) c.push.ensures) (ap (λ (i : RoomEntries). i.addresses) c.push.ensures) (ap (λ (i : RoomEntries). i.owners) c.push.ensures));
      counted = omega (arith, c.self.invariant.counted, ap length (ap present_entries c.push_reserved.ensures.items ∙ left_push places c.args.room), length-append (present_entries places) (c.args.room ∷ []));
      memory = omega (arith, c.self.invariant.memory, c.push_reserved.ensures.len, c.push_reserved.ensures.capacity, c.requires);
      room = omega (arith, c.self.invariant.room, ap (λ (i : RoomEntries). i.room) c.push.ensures);
    }

pub returns-clause-rooms : goal.returns-clause-rooms
returns-clause-rooms c = ap present_entries c.push_reserved.ensures.items ∙ left_push c.self.inside.places.items c.args.room ∙ ap (λ (r : RoomPlaces). present_entries r.places ++ c.args.room ∷ []) c.self.view_is
