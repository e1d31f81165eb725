use Rattle.std.proofs.Common.{length}
use Rattle.rv_mem.specs.Windows.{AreRegionNumbers}
use Rattle.rv_mem.proofs.window.pages_of.Given as goal

abbrev pub invariant-loop-i : goal.invariant-loop-i
invariant-loop-i l = AreRegionNumbers (length l.regions.items) l.pages.items
