use Rattle.std.proofs.Common.{◌≡◌, drop}
use Rattle.advice.specs.Words.{words}
use Rattle.advice.proofs.words.word_at.Given as goal

-- the words after those that were passed
abbrev pub invariant-loop : goal.invariant-loop
invariant-loop l = l.words ≡ drop l.counter (words l.line)
