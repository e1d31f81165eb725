use Rattle.std.proofs.Common.{◌≡◌, ◌++◌, drop, map}
use Rattle.profile_reader.specs.Lines.{lines_with}
use Rattle.profile_reader.proofs.line_kinds.lines_with.Given as goal

-- what is found, and what is left, make all
abbrev pub invariant-loop-line : goal.invariant-loop-line
invariant-loop-line l =
    map (λ line. line.now) l.found.items ++ lines_with l.text (map (λ line. line.now) (drop l.line-index l.lines))
    ≡ lines_with l.text (map (λ line. line.now) l.lines)
