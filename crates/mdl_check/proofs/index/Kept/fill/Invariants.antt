use Rattle.std.proofs.Common.{take}
use Rattle.mdl_check.specs.Indexes.{AreIndexes}
use Rattle.mdl_check.proofs.index.Kept.fill.Given as goal

abbrev pub invariant-loop-place : goal.invariant-loop-place
invariant-loop-place l = AreIndexes (take l.place l.all) l.self
