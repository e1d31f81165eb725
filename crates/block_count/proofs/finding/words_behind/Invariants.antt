use Rattle.std.proofs.Common.{◌≡◌, ◌+◌, ◌*◌, ◌≤◌, drop}
use Rattle.block_count.specs.Heads.{words_behind}
use Rattle.block_count.specs.Marked.{marked_in}
use Rattle.block_count.proofs.finding.words_behind.Given as goal

-- the words so far, and those of the rest
abbrev pub invariant-loop-place : goal.invariant-loop-place
invariant-loop-place l = record {
  few : l.count ≤ l.place;
  all : l.count + words_behind (marked_in l.at l.marks) (drop l.place l.words) (l.at + 4 * l.place) ≡ words_behind (marked_in l.at l.marks) (drop l.first l.words) (l.at + 4 * l.first);
}
