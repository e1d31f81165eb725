use Rattle.std.proofs.Common.{◌≡◌, drop, map}
use Rattle.std.specs.Prelude.{string_bytes}
use Rattle.std.specs.Option.{option_and_then}
use Rattle.command_words.specs.Walks.{walk_values, walked, values_of}
use Rattle.command_words.specs.Walked.{form_seen, walk_seen}
use Rattle.command_words.proofs.walking.values_of.Given as goal

-- the words after the place lead on from the walk
abbrev pub invariant-loop-word : goal.invariant-loop-word
invariant-loop-word l = option_and_then (walk_values (form_seen l.form)) (walked (form_seen l.form) (walk_seen l.walk) (map string_bytes (drop l.word-index l.words))) ≡ values_of (form_seen l.form) (map string_bytes l.words)
