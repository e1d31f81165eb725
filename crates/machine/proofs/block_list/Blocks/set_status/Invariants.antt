use Rattle.std.proofs.Common.{length}
use Rattle.std.specs.Option.{option_map}
use Rattle.bucket_chains.proofs.Nexts.{places_from}
use Rattle.machine.proofs.BlockLooks.{begins_at}
use Rattle.machine.proofs.BlockWalks.{Walks, put_if}
use Rattle.machine.proofs.block_list.Blocks.set_status.Given as goal

-- the blocks before the next place have their new statuses
abbrev pub invariant-loop-next : goal.invariant-loop-next
invariant-loop-next l = Walks l.point (option_map (put_if (begins_at l.point l.at) l.status)) l.initial.self-inside l.self-inside l.next

abbrev pub decreases-loop-next : goal.decreases-loop-next
decreases-loop-next l = places_from (length l.initial.self-inside.rows.items) l.next
