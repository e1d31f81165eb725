-- For proofs alone: sums of the numbers of words.
use Rattle.std.specs.Prelude.{◌≡◌, ℕ, ◌+◌, ◌≤◌, List, get_or, length, sum_by, take}
use Rattle.profile_text.specs.declared.numbered_word.NumberedWord.{NumberedWord}

-- the number at each place is the sum of the numbers of all words before it
pub record AreSums (words : List NumberedWord) (sums : List ℕ) : Type 0 where
  pub len : length sums ≡ length words + 1
  pub each : (k : ℕ) → k ≤ length words → get_or sums k 0 ≡ sum_by (λ x. x.number) (take k words)
