use Rattle.std.proofs.Common.{length}
use Rattle.bucket_chains.proofs.Nexts.{places_from}
use Rattle.instrument.proofs.Dropped.{IsDropping}
use Rattle.instrument.proofs.dropping.drop_sites.Given as goal

-- the sites before the next place were dropped
abbrev pub invariant-loop-next : goal.invariant-loop-next
invariant-loop-next l = IsDropping l.owner l.fn.rooms l.fn.agenda l.rooms l.agenda l.next

abbrev pub decreases-loop-next : goal.decreases-loop-next
decreases-loop-next l = places_from (length l.rooms.places) l.next
