use Rattle.std.proofs.Common.{◌≡◌, ◌+◌, take}
use Rattle.instrument.specs.RoomPlaces.{AreIndexed}
use Rattle.instrument.proofs.room_list.enter.Given as goal

-- the places so far are entered
abbrev pub invariant-loop-place : goal.invariant-loop-place
invariant-loop-place l = record {
  indexed : AreIndexed (take l.place-index l.places) l.index;
  room : l.index.room + l.place-index ≡ l.initial.index.room;
}
