use Rattle.std.proofs.Common.{length}
use Rattle.bucket_chains.proofs.Nexts.{places_from}
use Rattle.machine.proofs.BlockLooks.{Looks, leads_at}
use Rattle.machine.proofs.block_list.Blocks.before.Given as goal

-- the block is among those from the next place on, if it is there
abbrev pub invariant-loop-next : goal.invariant-loop-next
invariant-loop-next l = Looks l.point (leads_at l.store.code l.point l.at) l.self-inside.rows.items l.next

abbrev pub decreases-loop-next : goal.decreases-loop-next
decreases-loop-next l = places_from (length l.self-inside.rows.items) l.next
