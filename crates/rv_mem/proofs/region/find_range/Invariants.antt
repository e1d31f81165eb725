use Rattle.std.proofs.Common.{◌≡◌, ℕ, ◌<◌, ◌≤◌, ◌+◌, get_or, None}
use Rattle.rv_mem.specs.Regions.{place_of}
use Rattle.rv_mem.specs.declared.mapped.Region.{Region}
use Rattle.rv_mem.proofs.region.find_range.Given as goal

abbrev pub invariant-loop-i : goal.invariant-loop-i
invariant-loop-i l = (k : ℕ) (d : Region) (q : ℕ) → k < l.i → l.at ≤ q → q < l.at + l.n → place_of (get_or l.regions.items k d) q ≡ None
