use Rattle.std.proofs.Common.{◌≡◌, ℕ, ◌<◌, get_or, None}
use Rattle.rv_mem.specs.Regions.{place_of}
use Rattle.rv_mem.specs.declared.mapped.Region.{Region}
use Rattle.rv_mem.proofs.region.put_byte.Given as goal

abbrev pub invariant-loop-i : goal.invariant-loop-i
invariant-loop-i l = record {
  same : l.regions ≡ l.fn.regions;
  before : (k : ℕ) (d : Region) → k < l.i → place_of (get_or l.regions.items k d) l.at ≡ None;
}
