use Rattle.std.proofs.Common.{rules, Option, length, sym, ap, subst, ◌∙◌, arith}
use Rattle.std.specs.Option.{is_some}
use Rattle.std.proofs.lemmas.Fn.{filter_same}
use Rattle.std.proofs.lemmas.List.{length-map}
use Rattle.bucket_chains.specs.Left.{present_entries}
use Rattle.instrument.specs.RoomPlaces.{AreIndexed, RoomEntries, RoomPlaces, bucket_by, point_key}
use Rattle.instrument.specs.declared.room.Room.{Room}
use Rattle.instrument.proofs.RoomLists.{left_filled}
use Rattle.instrument.proofs.room_list.Rooms.compact.Goals as goal

pub invariant_of-self : goal.invariant_of-self
invariant_of-self c =
    let places = c.self.inside.places.items in
    let filled = filter_same _ (λ (o : Option Room). is_some o) _ (λ x b f' k. search rules) _ _ c.retain.ensures.filtered in
    let same = ap present_entries filled ∙ left_filled places in
    record {
      indexed = subst (λ ps. AreIndexed ps c.enter.new.index) c.deref.ensures.value c.enter.ensures.indexed;
      counted = c.self.invariant.counted ∙ sym (ap length same);
      memory = omega (arith, c.self.invariant.memory, c.retain.ensures.bound, c.retain.ensures.capacity);
      room = omega (arith, c.self.invariant.room, c.enter.ensures.room, c.deref.ensures.len, c.retain.ensures.bound, ap (λ (i : RoomEntries). i.room) c.clear.ensures, ap length c.self.invariant.indexed.points, length-map c.self.inside.places.items (bucket_by point_key), c.self.inside.places.ok);
    }

pub returns-clause-rooms : goal.returns-clause-rooms
returns-clause-rooms c =
    let filled = filter_same _ (λ (o : Option Room). is_some o) _ (λ x b f' k. search rules) _ _ c.retain.ensures.filtered in
    ap present_entries filled ∙ left_filled c.self.inside.places.items ∙ ap (λ (r : RoomPlaces). present_entries r.places) c.self.view_is
