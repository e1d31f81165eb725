use Rattle.std.proofs.Common.{take}
use Rattle.mdl_check.specs.Indexes.{AreByKind}
use Rattle.mdl_check.proofs.collect.ByKind.fill.Given as goal

abbrev pub invariant-loop-entry : goal.invariant-loop-entry
invariant-loop-entry l = AreByKind l.index (take l.entry-index l.entry-items) l.self
