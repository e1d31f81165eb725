use Rattle.std.proofs.Common.{◌≡◌, drop, map}
use Rattle.std.specs.Prelude.{◌==◌}
use Rattle.std.specs.Cmp.Lexicographic.{pointwise}
use Rattle.prim_code.specs.Counts.{site_words}
use Rattle.instrument.proofs.site_memory.SiteMemory.is_for.Given as goal

abbrev pub invariant-loop-place : goal.invariant-loop-place
invariant-loop-place l = pointwise (λ v w. v == w) (map site_words (drop l.place l.sites)) (drop l.place l.self) ≡ pointwise (λ v w. v == w) (map site_words l.sites) l.self
