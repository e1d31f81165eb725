use Rattle.std.proofs.Common.{◌≡◌, drop, map}
use Rattle.std.specs.Prelude.{string_bytes}
use Rattle.pd_words.specs.Reading.{nothing_read, read_words}
use Rattle.pd_words.specs.Seen.{command_seen, reading_seen}
use Rattle.pd_words.proofs.reading.given_to.Given as goal

-- what is read of the words so far goes on as all words are read
abbrev pub invariant-loop-word : goal.invariant-loop-word
invariant-loop-word l =
    read_words (command_seen l.command) nothing_read (map string_bytes l.words)
    ≡ read_words (command_seen l.command) (reading_seen l.reading) (map string_bytes (drop l.word-index l.words))
