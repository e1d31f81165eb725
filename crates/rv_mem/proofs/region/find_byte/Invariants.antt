use Rattle.std.proofs.Common.{◌≡◌, drop}
use Rattle.rv_mem.specs.Regions.{first_byte}
use Rattle.rv_mem.proofs.region.find_byte.Given as goal

abbrev pub invariant-loop-region : goal.invariant-loop-region
invariant-loop-region l = first_byte l.region-items l.at ≡ first_byte (drop l.region-index l.region-items) l.at
