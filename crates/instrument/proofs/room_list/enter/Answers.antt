use Rattle.std.proofs.Common.{◌≡◌, ◌+◌, Option, None, [], ◌++◌, ◌∷◌, take, get_or, sym, ap, subst, arith}
use Rattle.std.proofs.lemmas.List.{take_more, take_all}
use Rattle.instrument.specs.RoomPlaces.{AreIndexed, RoomEntries}
use Rattle.instrument.specs.declared.room.Room.{Room}
use Rattle.instrument.proofs.RoomLists.{indexed_push}
use Rattle.instrument.proofs.room_list.enter.Goals as goal

pub loop-place-init : goal.loop-place-init
loop-place-init c = record {
  indexed = record { points = ap (λ (i : RoomEntries). i.points) c.requires.empty; addresses = ap (λ (i : RoomEntries). i.addresses) c.requires.empty; owners = ap (λ (i : RoomEntries). i.owners) c.requires.empty };
  room = omega arith;
}

pub push-requires : goal.push-requires
push-requires c = omega (arith, c.loop-place.invariant.room, c.loop-place-test.true, c.requires.room)

pub loop-place-preserved : goal.loop-place-preserved
loop-place-preserved c =
    let places = c.args.places.now in
    let i = c.loop-place.place-index in
    let place : Option Room = get_or places i None in
    let more : take (i + 1) places ≡ take i places ++ place ∷ [] = take_more places i None c.loop-place-test.true in
    record {
      indexed = subst (λ ps. AreIndexed ps c.push.new.self) (sym more)
          (indexed_push (take i places) place c.loop-place.index c.push.new.self c.loop-place.invariant.indexed (ap (λ (i : RoomEntries). i.points) c.push.ensures) (ap (λ (i : RoomEntries). i.addresses) c.push.ensures) (ap (λ (i : RoomEntries). i.owners) c.push.ensures));
      room = omega (arith, ap (λ (i : RoomEntries). i.room) c.push.ensures, c.loop-place.invariant.room, c.loop-place-test.true, c.requires.room);
    }

pub returns-clause-indexed : goal.returns-clause-indexed
returns-clause-indexed c = subst (λ ps. AreIndexed ps c.loop-place.index) (take_all c.loop-place.place-index c.args.places.now (omega (arith, c.loop-place-test.false))) c.loop-place.invariant.indexed

pub returns-clause-room : goal.returns-clause-room
returns-clause-room c = omega (arith, c.loop-place.invariant.room, c.loop-place-test.false, c.loop-place.auto.place-index-end)
