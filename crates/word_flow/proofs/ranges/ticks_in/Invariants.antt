use Rattle.std.proofs.Common.{◌≡◌, ◌+◌, ◌*◌, ◌<◌, ◌^◌, drop}
use Rattle.rv_word.specs.Memory.{in_range}
use Rattle.word_flow.specs.Numbers.{sum_at}
use Rattle.word_flow.proofs.ranges.ticks_in.Given as goal

-- the total so far, and the sum of what is left, are the sum of all
abbrev pub invariant-loop-place : goal.invariant-loop-place
invariant-loop-place l = record {
  few : sum_at (in_range l.start l.len) l.numbers l.at < 2 ^ 64;
  all : l.total + sum_at (in_range l.start l.len) (drop l.place l.numbers) (l.at + 4 * l.place)
      ≡ sum_at (in_range l.start l.len) l.numbers l.at;
}
