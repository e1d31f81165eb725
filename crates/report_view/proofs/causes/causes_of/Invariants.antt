use Rattle.std.proofs.Common.{◌≡◌, ◌++◌, drop, filter}
use Rattle.report_view.specs.Causes.{is_cause}
use Rattle.report_view.proofs.causes.causes_of.Given as goal

-- the causes that are found, and those that are left, are all
abbrev pub invariant-loop-row : goal.invariant-loop-row
invariant-loop-row l = l.causes.items ++ filter (is_cause l.parts) (drop l.row-index l.rows) ≡ filter (is_cause l.parts) l.rows
