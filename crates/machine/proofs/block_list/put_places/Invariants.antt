use Rattle.std.proofs.Common.{◌≡◌, ◌+◌, ◌++◌, drop}
use Rattle.bucket_chains.specs.Left.{buckets_of}
use Rattle.machine.proofs.BlockLooks.{point_of}
use Rattle.machine.proofs.block_list.put_places.Given as goal

-- the places so far, and those to come, are all places
abbrev pub invariant-loop-row : goal.invariant-loop-row
invariant-loop-row l = record {
  buckets : l.places.buckets ++ buckets_of point_of (drop l.row-index l.rows) ≡ l.fn.places.buckets ++ buckets_of point_of l.fn.rows;
  room : l.places.room + l.row-index ≡ l.fn.places.room;
}
