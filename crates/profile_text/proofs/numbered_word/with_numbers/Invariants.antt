use Rattle.std.proofs.Common.{◌≡◌, ◌+◌, ◌*◌, ◌++◌, drop}
use Rattle.profile_text.specs.NumberedWords.{with_numbers}
use Rattle.profile_text.proofs.numbered_word.with_numbers.Given as goal

-- the words so far, and those that are left, are all
abbrev pub invariant-loop-place : goal.invariant-loop-place
invariant-loop-place l =
    l.numbered.items ++ with_numbers (l.at + 4 * l.place) (drop l.place l.words) (drop l.place l.numbers) ≡ with_numbers l.at l.words l.numbers
