use Rattle.std.proofs.Common.{◌≡◌, ◌+◌, ◌*◌, ◌<◌, ◌^◌, ◌++◌, drop}
use Rattle.word_flow.specs.Numbers.{word_numbers}
use Rattle.word_flow.proofs.numbers.word_numbers.Given as goal

-- the numbers so far, and those of the words that are left, are all numbers
abbrev pub invariant-loop-place : goal.invariant-loop-place
invariant-loop-place l =
    (l.numbers.items ++ word_numbers l.ends l.flow (drop l.place l.counts) (drop l.place l.words) (l.at + 4 * l.place)
    ≡ word_numbers l.ends 0 l.counts l.words l.at)
    × (l.flow < 2 ^ 64)
