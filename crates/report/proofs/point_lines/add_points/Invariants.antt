use Rattle.std.proofs.Common.{◌≡◌, ◌++◌, drop}
use Rattle.report.specs.Points.{point_lines}
use Rattle.report.proofs.point_lines.add_points.Given as goal

-- what is written, and the lines that are left, make all the lines
abbrev pub invariant-loop-point : goal.invariant-loop-point
invariant-loop-point l = l.out.items ++ point_lines l.procs (drop l.point-index l.points) ≡ l.initial.out.items ++ point_lines l.procs l.points
