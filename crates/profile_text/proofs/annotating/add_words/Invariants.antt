use Rattle.std.proofs.Common.{◌≡◌, ◌++◌, drop, flat_map}
use Rattle.profile_text.specs.Annotated.{annotated_word}
use Rattle.profile_text.proofs.annotating.add_words.Given as goal

-- what is written, and the words that are left, make all
abbrev pub invariant-loop-word : goal.invariant-loop-word
invariant-loop-word l =
    l.out.items ++ flat_map (annotated_word l.notes.text.now.procs.now l.notes.heads.now l.notes.all) (drop l.word-index l.words)
    ≡ l.initial.out.items ++ flat_map (annotated_word l.notes.text.now.procs.now l.notes.heads.now l.notes.all) l.words
