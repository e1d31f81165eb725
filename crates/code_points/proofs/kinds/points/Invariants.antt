use Rattle.std.proofs.Common.{◌≡◌, ◌++◌, drop}
use Rattle.rv_mem.specs.Start.{program_of}
use Rattle.code_points.specs.Points.{points_from, points_of}
use Rattle.code_points.proofs.kinds.points.Given as goal

-- the points so far, and those to come, are all
abbrev pub invariant-loop-number : goal.invariant-loop-number
invariant-loop-number l = l.points.items ++ points_from (program_of l.image) l.number (drop l.number l.procs) ≡ points_of l.image l.procs
