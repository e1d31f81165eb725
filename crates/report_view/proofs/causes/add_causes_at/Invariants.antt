use Rattle.std.proofs.Common.{◌≡◌, ◌++◌, drop}
use Rattle.report_view.specs.Causes.{causes_at}
use Rattle.report_view.proofs.causes.add_causes_at.Given as goal

-- what is written, and the causes that are left, make all
abbrev pub invariant-loop-row : goal.invariant-loop-row
invariant-loop-row l = l.out.items ++ causes_at l.parts (drop l.row-index l.causes) l.depth ≡ l.initial.out.items ++ causes_at l.parts l.causes l.depth
