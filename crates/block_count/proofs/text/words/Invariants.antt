use Rattle.std.proofs.Common.{◌≡◌, ◌-◌, ◌*◌, ◌+◌, ◌/◌, ◌++◌, length}
use Rattle.rv_word.specs.Names.{words_in, words_of}
use Rattle.block_count.proofs.text.words.Given as goal

-- the words so far, and those of what is left, are all words
abbrev pub invariant-loop : goal.invariant-loop
invariant-loop l = record {
  left : length l.rest + 4 * l.counter ≡ length l.text;
  same : l.words.items ++ words_in (length l.text / 4 - l.counter) l.rest ≡ words_of l.text;
}
