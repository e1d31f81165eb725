use Rattle.std.proofs.Common.{length}
use Rattle.bucket_chains.proofs.Nexts.{places_from}
use Rattle.machine.proofs.BlockLooks.{Looks, is_base_of}
use Rattle.machine.proofs.block_list.Blocks.current_base.Given as goal

-- the block is among those from the next place on, if it is there
abbrev pub invariant-loop-next : goal.invariant-loop-next
invariant-loop-next l = Looks l.point (is_base_of l.point) l.self-inside.rows.items l.next

abbrev pub decreases-loop-next : goal.decreases-loop-next
decreases-loop-next l = places_from (length l.self-inside.rows.items) l.next
