use Rattle.std.proofs.Common.{◌≡◌, ◌++◌, drop}
use Rattle.report_picture.specs.Svg.{tree_rows}
use Rattle.report_picture.proofs.svg.add_lines.Given as goal

-- what is written, and the rows that are left, make all
abbrev pub invariant-loop-place : goal.invariant-loop-place
invariant-loop-place l = l.out.items ++ tree_rows l.parts l.place (drop l.place l.lines) ≡ l.initial.out.items ++ tree_rows l.parts 0 l.lines
