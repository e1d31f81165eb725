use Rattle.std.proofs.Common.{◌≡◌, length}
use Rattle.rv_mem.specs.Regions.{parts_of}
use Rattle.rv_mem.proofs.Clear.{AreClearTo}
use Rattle.rv_mem.proofs.window.set_windows.Given as goal

abbrev pub invariant-loop-i : goal.invariant-loop-i
invariant-loop-i l = record {
  many : length l.regions.items ≡ length l.initial.regions.items;
  parts : parts_of l.regions.items ≡ parts_of l.initial.regions.items;
  clear : AreClearTo l.text_at l.text_len l.i l.regions.items;
}
