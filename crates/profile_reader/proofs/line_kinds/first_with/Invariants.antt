use Rattle.std.proofs.Common.{◌≡◌, drop, map}
use Rattle.profile_reader.specs.Lines.{first_with}
use Rattle.profile_reader.proofs.line_kinds.first_with.Given as goal

-- the first is among the lines that are left
abbrev pub invariant-loop-line : goal.invariant-loop-line
invariant-loop-line l =
    first_with l.text (map (λ line. line.now) (drop l.line-index l.lines)) ≡ first_with l.text (map (λ line. line.now) l.lines)
