use Rattle.std.proofs.Common.{◌≡◌, ◌++◌, ◌≤◌, drop, length, map}
use Rattle.report_lines.specs.Lines.{hart_of_line}
use Rattle.profile_reader.proofs.read_lines.harts.Given as goal

-- the harts so far, and those of the lines that are left, are all
abbrev pub invariant-loop-line : goal.invariant-loop-line
invariant-loop-line l = record {
  all : l.parts.items ++ map hart_of_line (map (λ line. line.now) (drop l.line-index l.lines)) ≡ map hart_of_line (map (λ line. line.now) l.lines);
  few : length l.parts.items ≤ 32;
}
