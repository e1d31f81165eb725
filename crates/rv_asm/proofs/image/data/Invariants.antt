use Rattle.std.proofs.Common.{◌≡◌, ◌++◌, drop, map}
use Rattle.rv_asm.specs.Assembly.{data_bytes}
use Rattle.rv_asm.specs.DraftSeen.{placed_seen}
use Rattle.rv_asm.proofs.image.data.Given as goal

abbrev pub invariant-loop-placed : goal.invariant-loop-placed
invariant-loop-placed l = l.out.items ++ data_bytes (map placed_seen (drop l.placed-index l.data_part)) ≡ data_bytes (map placed_seen l.data_part)
