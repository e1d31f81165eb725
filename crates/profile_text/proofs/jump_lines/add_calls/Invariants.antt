use Rattle.std.proofs.Common.{◌≡◌, ◌++◌, drop, flat_map}
use Rattle.profile_text.specs.Lines.{call_lines}
use Rattle.profile_text.proofs.jump_lines.add_calls.Given as goal

-- what is written, and the lines that are left, make all the lines
abbrev pub invariant-loop-word : goal.invariant-loop-word
invariant-loop-word l =
    l.out.items ++ flat_map (call_lines l.text.procs.now) (drop l.word-index l.text.words.items)
    ≡ l.initial.out.items ++ flat_map (call_lines l.text.procs.now) l.text.words.items
