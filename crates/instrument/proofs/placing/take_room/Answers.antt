use Rattle.std.proofs.Common.{◌*◌, subst, sym}
use Rattle.tool_space.specs.Rooms.{Rooms}
use Rattle.instrument.specs.Spaces.{IsRoomTaken}
use Rattle.instrument.proofs.RoomsTaken.{room_taken}
use Rattle.instrument.proofs.Fitted.{no_room}
use Rattle.instrument.proofs.placing.take_room.Goals as goal

pub returns-in-Some-clause-taken : goal.returns-in-Some-clause-taken
returns-in-Some-clause-taken c =
    subst (λ (z : Rooms). IsRoomTaken c.args.words.now z (4 * c.in-Some.word) c.args.len) (sym c.in-Some.ensures.taken)
    (room_taken c.args.words.now c.in-Some.word c.args.len c.requires.some c.requires.reserved c.in-Some.ensures.lowest c.in-Some.ensures.inside)

pub returns-in-None-clause-none : goal.returns-in-None-clause-none
returns-in-None-clause-none c = λ program rooms k. no_room program c.args.words.now rooms k c.args.len c.in-None.ensures.no_room
