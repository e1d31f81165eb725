use Rattle.std.proofs.Common.{◌≡◌, drop, max}
use Rattle.report_view.specs.Causes.{deepest}
use Rattle.report_view.proofs.causes.deepest.Given as goal

-- the greatest depth so far, and that of the rows that are left, give that of all
abbrev pub invariant-loop-row : goal.invariant-loop-row
invariant-loop-row l = max l.depth (deepest (drop l.row-index l.rows)) ≡ deepest l.rows
