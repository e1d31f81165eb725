use Rattle.std.proofs.Common.{length}
use Rattle.std.specs.Prelude.{vec_capacity}
use Rattle.bucket_chains.proofs.Nexts.{places_from}
use Rattle.instrument.proofs.RoomSeeks.{IsListing}
use Rattle.instrument.proofs.room_list.Rooms.sites_of.Given as goal

-- the sites so far, and those at the next place and after it, are all
abbrev pub invariant-loop-next : goal.invariant-loop-next
invariant-loop-next l = IsListing l.owner l.self-inside.places.items l.next l.sites.items (vec_capacity l.sites)

abbrev pub decreases-loop-next : goal.decreases-loop-next
decreases-loop-next l = places_from (length l.self-inside.places.items) l.next
