use Rattle.std.proofs.Common.{length}
use Rattle.std.specs.List.{list_any}
use Rattle.bucket_chains.specs.Entries.{bucket_of}
use Rattle.bucket_chains.specs.Left.{present_entries}
use Rattle.bucket_chains.proofs.Nexts.{places_from}
use Rattle.bucket_chains.proofs.Skips.{Seeks}
use Rattle.instrument.specs.Placements.{is_mini_room_of}
use Rattle.instrument.specs.RoomPlaces.{owner_key}
use Rattle.instrument.proofs.room_list.Rooms.has_mini_of.Given as goal

-- the room is at the next place or after it, if it is there
abbrev pub invariant-loop-next : goal.invariant-loop-next
invariant-loop-next l = Seeks owner_key (bucket_of l.owner) (list_any (is_mini_room_of l.owner)) l.self-inside.places.items l.next (list_any (is_mini_room_of l.owner) (present_entries l.self-inside.places.items))

abbrev pub decreases-loop-next : goal.decreases-loop-next
decreases-loop-next l = places_from (length l.self-inside.places.items) l.next
