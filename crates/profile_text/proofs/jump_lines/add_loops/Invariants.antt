use Rattle.std.proofs.Common.{◌≡◌, ◌++◌, drop, flat_map}
use Rattle.profile_text.specs.Lines.{loop_lines}
use Rattle.profile_text.proofs.jump_lines.add_loops.Given as goal

-- what is written, and the lines that are left, make all the lines
abbrev pub invariant-loop-word : goal.invariant-loop-word
invariant-loop-word l =
    l.out.items ++ flat_map (loop_lines l.text.image.now l.text.procs.now l.text.profile.now) (drop l.word-index l.text.words.items)
    ≡ l.initial.out.items ++ flat_map (loop_lines l.text.image.now l.text.procs.now l.text.profile.now) l.text.words.items
