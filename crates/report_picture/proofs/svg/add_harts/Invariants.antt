use Rattle.std.proofs.Common.{◌≡◌, ◌++◌, drop}
use Rattle.report_picture.specs.Svg.{hart_lines}
use Rattle.report_picture.proofs.svg.add_harts.Given as goal

-- what is written, and the lines that are left, make all
abbrev pub invariant-loop-number : goal.invariant-loop-number
invariant-loop-number l = l.out.items ++ hart_lines l.number (drop l.number l.parts) ≡ l.initial.out.items ++ hart_lines 0 l.parts
