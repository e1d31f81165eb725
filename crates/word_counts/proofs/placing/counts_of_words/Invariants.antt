use Rattle.std.proofs.Common.{◌≡◌, ℕ, ◌+◌, ◌*◌, ◌<◌, drop, length, get_or, None}
use Rattle.word_counts.specs.Placing.{count_at}
use Rattle.word_counts.proofs.placing.counts_of_words.Given as goal

-- what is set so far, and then the blocks that are left, give each word its count
abbrev pub invariant-loop-block : goal.invariant-loop-block
invariant-loop-block l = record {
  len : length l.counts.items ≡ l.words;
  counts : (k : ℕ) → k < l.words
      → count_at (get_or l.counts.items k None) (drop l.block l.heads) (drop l.block l.block_counts) (l.at + 4 * k)
      ≡ count_at None l.heads l.block_counts (l.at + 4 * k);
}
