use Rattle.std.proofs.Common.{◌≡◌, ◌++◌, drop, flat_map}
use Rattle.report_picture.specs.Axis.{mark_within}
use Rattle.report_picture.proofs.axis.add_marks_at.Given as goal

-- what is written, and the marks that are left, make all
abbrev pub invariant-loop-count : goal.invariant-loop-count
invariant-loop-count l = l.out.items ++ flat_map (mark_within l.height l.end l.step) (drop l.count-index l.counts) ≡ l.initial.out.items ++ flat_map (mark_within l.height l.end l.step) l.counts
