use Rattle.std.proofs.Common.{◌≡◌, ◌+◌, ◌*◌, ◌++◌, ◌≤◌, drop, length}
use Rattle.block_count.specs.Heads.{heads_in}
use Rattle.block_count.specs.Marked.{marked_in}
use Rattle.block_count.proofs.finding.marked_heads.Given as goal

-- the blocks so far, and those of the rest
abbrev pub invariant-loop-place : goal.invariant-loop-place
invariant-loop-place l = record {
  few : length l.heads.items ≤ l.place;
  all : l.heads.items ++ heads_in (marked_in l.at l.marks) (drop l.place l.words) (l.at + 4 * l.place) ≡ heads_in (marked_in l.at l.marks) l.words l.at;
}
