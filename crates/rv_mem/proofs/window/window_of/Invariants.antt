use Rattle.std.proofs.Common.{◌≡◌, ◌<◌, ◌≤◌, ℕ, get_or, None}
use Rattle.rv_mem.specs.Regions.{place_of}
use Rattle.rv_mem.specs.declared.mapped.Region.{Region}
use Rattle.rv_mem.proofs.window.window_of.Given as goal

abbrev pub invariant-loop-k : goal.invariant-loop-k
invariant-loop-k l = (j : ℕ) (d : Region) (q : ℕ) → j < l.k → l.window.from ≤ q → q < l.window.to → place_of (get_or l.regions.items j d) q ≡ None
