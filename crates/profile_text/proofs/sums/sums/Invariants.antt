use Rattle.std.proofs.Common.{◌≡◌, ℕ, ◌<◌, get_or, length, take}
use Rattle.std.specs.Prelude.{sum_by}
use Rattle.profile_text.proofs.sums.sums.Given as goal

-- the sums of the words so far
abbrev pub invariant-loop-word : goal.invariant-loop-word
invariant-loop-word l = record {
  len : length l.sums.items ≡ l.word-index;
  sum : l.sum ≡ sum_by (λ x. x.number) (take l.word-index l.words);
  each : (k : ℕ) → k < l.word-index → get_or l.sums.items k 0 ≡ sum_by (λ x. x.number) (take k l.words);
}
