use Rattle.std.proofs.Common.{find, length}
use Rattle.bucket_chains.specs.Entries.{bucket_of}
use Rattle.bucket_chains.specs.Left.{present_entries}
use Rattle.bucket_chains.proofs.Nexts.{places_from}
use Rattle.bucket_chains.proofs.Skips.{Seeks}
use Rattle.instrument.specs.Books.{is_base_of}
use Rattle.instrument.specs.RoomPlaces.{point_key}
use Rattle.instrument.proofs.room_list.Rooms.find_base.Given as goal

-- the room is at the next place or after it, if it is there
abbrev pub invariant-loop-next : goal.invariant-loop-next
invariant-loop-next l = Seeks point_key (bucket_of l.point) (find (is_base_of l.point)) l.self-inside.places.items l.next (find (is_base_of l.point) (present_entries l.self-inside.places.items))

abbrev pub decreases-loop-next : goal.decreases-loop-next
decreases-loop-next l = places_from (length l.self-inside.places.items) l.next
