use Rattle.std.proofs.Common.{◌≡◌, ◌++◌, map, drop}
use Rattle.mdl_parse.specs.Gives.{word_seen}
use Rattle.mdl_parse.specs.Printing.{text_after}
use Rattle.mdl_parse.proofs.line.add_behind.Given as goal

abbrev pub invariant-loop-word : goal.invariant-loop-word
invariant-loop-word l =
    l.out.items ++ text_after (word_seen l.left) (map word_seen (drop l.word-index l.words)) ≡ l.initial.out.items ++ text_after (word_seen l.initial.left) (map word_seen l.words)
