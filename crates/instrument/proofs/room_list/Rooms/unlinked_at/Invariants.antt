use Rattle.std.proofs.Common.{filter, length}
use Rattle.bucket_chains.specs.Entries.{bucket_of}
use Rattle.bucket_chains.specs.Left.{present_entries}
use Rattle.bucket_chains.proofs.Nexts.{places_from}
use Rattle.bucket_chains.proofs.Skips.{Seeks}
use Rattle.instrument.specs.RoomPlaces.{point_key}
use Rattle.instrument.proofs.RoomSeeks.{goes}
use Rattle.instrument.proofs.room_list.Rooms.unlinked_at.Given as goal

-- the room is at the next place or after it, if it is there
abbrev pub invariant-loop-next : goal.invariant-loop-next
invariant-loop-next l = Seeks point_key (bucket_of l.point) (filter (goes l.point)) l.self-inside.places.items l.next (filter (goes l.point) (present_entries l.self-inside.places.items))

abbrev pub decreases-loop-next : goal.decreases-loop-next
decreases-loop-next l = places_from (length l.self-inside.places.items) l.next
