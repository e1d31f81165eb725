-- When a hypothesis is true of what was seen.
use Rattle.std.specs.Prelude.{ℕ, ◌<◌, ◌≤◌, ◌*◌, ◌&&◌, nat_lt, nat_le, Bool}

-- the value per 1,000 ticks isn't below the threshold; of no ticks nothing is true
pub record Holds (value ticks threshold : ℕ) : Type 0 where
  pub some_ticks : 0 < ticks
  pub enough : threshold * ticks ≤ value * 1000

-- the same as a test
unfoldable pub holds : ℕ → ℕ → ℕ → Bool
holds value ticks threshold = nat_lt 0 ticks && nat_le (threshold * ticks) (value * 1000)
