use Rattle.std.proofs.Common.{◌≡◌, ◌++◌, drop, map}
use Rattle.profile_reader.specs.Lines.{procedure_of_line}
use Rattle.profile_reader.proofs.read_lines.procedures.Given as goal

-- the procedures so far, and those of the lines that are left, are all
abbrev pub invariant-loop-line : goal.invariant-loop-line
invariant-loop-line l =
    l.procedures.items ++ map procedure_of_line (map (λ line. line.now) (drop l.line-index l.lines))
    ≡ map procedure_of_line (map (λ line. line.now) l.lines)
