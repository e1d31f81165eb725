use Rattle.std.proofs.Common.{◌≡◌, length}
use Rattle.bucket_chains.proofs.Nexts.{from_next, places_from}
use Rattle.machine.specs.Links.{owners_left}
use Rattle.machine.proofs.BlockWalks.{Walks}
use Rattle.machine.proofs.BlockFrees.{frees, take_retired}
use Rattle.machine.proofs.block_list.Blocks.remove_retired.Given as goal

-- the retired blocks before the next place are taken out, and their words are freed
abbrev pub invariant-loop-next : goal.invariant-loop-next
invariant-loop-next l = record {
  walks : Walks l.point (take_retired l.point) l.initial.self-inside l.self-inside l.next;
  program : l.store.program ≡ l.fn.store.program;
  code : l.store.code ≡ l.fn.store.code;
  owners : frees l.point (from_next l.next l.self-inside.rows.items) l.store.owners ≡ owners_left l.point l.fn.self.rows l.fn.store.owners;
}

abbrev pub decreases-loop-next : goal.decreases-loop-next
decreases-loop-next l = places_from (length l.initial.self-inside.rows.items) l.next
