use Rattle.std.proofs.Common.{length, refl}
use Rattle.std.specs.Vec.{vec_capacity, vec_len}
use Rattle.bucket_chains.specs.Entries.{bucket_of}
use Rattle.bucket_chains.proofs.Nexts.{places_from}
use Rattle.instrument.specs.Books.{unlinked_at}
use Rattle.instrument.specs.RoomPlaces.{at_key}
use Rattle.instrument.proofs.RoomWalks.{IsChanging, unlink_change}
use Rattle.instrument.proofs.room_list.Rooms.unlink.Given as goal

-- the rooms before the next place were changed
abbrev pub invariant-loop-next : goal.invariant-loop-next
invariant-loop-next l = IsChanging at_key (bucket_of l.at) (unlinked_at l.at) (λ x. refl) (unlink_change l.at) l.fn.self l.self-inside.places.items l.self-inside.index (vec_len l.self-inside.places) (vec_capacity l.self-inside.places) l.self-inside.count l.self-inside.spare l.next

abbrev pub decreases-loop-next : goal.decreases-loop-next
decreases-loop-next l = places_from (length l.self-inside.places.items) l.next
