use Rattle.std.proofs.Common.{◌≡◌, drop}
use Rattle.frame_walk.specs.Changes.{last_of}
use Rattle.frame_walk.proofs.values.last_of.Given as goal

-- the changes that are left decide
abbrev pub invariant-loop-change : goal.invariant-loop-change
invariant-loop-change l = last_of l.variable l.first l.changes ≡ last_of l.variable l.value (drop l.change-index l.changes)
