use Rattle.std.proofs.Common.{◌≡◌, ◌++◌, drop, map}
use Rattle.profile_reader.specs.Lines.{other_lines}
use Rattle.profile_reader.proofs.line_kinds.other_lines.Given as goal

-- what is written, and the lines that are left, make all
abbrev pub invariant-loop-line : goal.invariant-loop-line
invariant-loop-line l =
    l.text.items ++ other_lines (map (λ line. line.now) (drop l.line-index l.lines)) ≡ other_lines (map (λ line. line.now) l.lines)
