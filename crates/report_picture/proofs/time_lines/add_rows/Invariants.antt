use Rattle.std.proofs.Common.{◌≡◌, ◌++◌, drop}
use Rattle.report_picture.specs.TimeLines.{time_lines_from}
use Rattle.report_picture.proofs.time_lines.add_rows.Given as goal

-- what is written, and the rows that are left, make all
abbrev pub invariant-loop-number : goal.invariant-loop-number
invariant-loop-number l = l.out.items ++ time_lines_from l.end l.number (drop l.number l.parts) ≡ l.initial.out.items ++ time_lines_from l.end 0 l.parts
