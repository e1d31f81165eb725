use Rattle.std.proofs.Common.{◌≡◌, ◌-◌, ◌*◌, ◌+◌, ◌/◌, length}
use Rattle.rv_word.specs.Names.{scratch_in, words_in, words_of}
use Rattle.rv_word.proofs.names.first_scratch.Given as goal

-- what is left of the text is searched to the same end
abbrev pub invariant-loop : goal.invariant-loop
invariant-loop l = record {
  left : length l.rest + 4 * l.counter ≡ length l.text;
  place : l.place ≡ l.at + 4 * l.counter;
  same : scratch_in (words_in (length l.text / 4 - l.counter) l.rest) l.place ≡ scratch_in (words_of l.text) l.at;
}
