use Rattle.std.proofs.Common.{◌≡◌, ◌++◌, drop, flat_map}
use Rattle.profile_text.specs.Lines.{word_line}
use Rattle.profile_text.proofs.word_lines.add_words.Given as goal

-- what is written, and the lines that are left, make all the lines
abbrev pub invariant-loop-word : goal.invariant-loop-word
invariant-loop-word l = l.out.items ++ flat_map word_line (drop l.word-index l.words) ≡ l.initial.out.items ++ flat_map word_line l.words
