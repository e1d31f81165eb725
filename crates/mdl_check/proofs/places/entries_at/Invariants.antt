use Rattle.std.proofs.Common.{take}
use Rattle.mdl_check.specs.Checking.{AreEntries}
use Rattle.mdl_check.proofs.places.entries_at.Given as goal

abbrev pub invariant-loop-placed : goal.invariant-loop-placed
invariant-loop-placed l = AreEntries l.tree (take l.placed-index l.placed_items) l.entries.items
