-- The ranges of a run's numbers.
use Rattle.std.specs.Prelude.{◌≤◌}
use Rattle.pn_types.specs.declared.limits.TheConstants.{MAX_HARTS, MAX_BUDGET, MIN_BINS, MAX_BINS, MAX_WIDTH, MAX_INSTRUMENTS}
use Rattle.pn_types.specs.declared.settings.Settings.{Settings}

pub record AreInRange (s : Settings) : Type 0 where
  pub harts : (1 ≤ s.harts) × (s.harts ≤ MAX_HARTS)
  pub budget : (1 ≤ s.budget) × (s.budget ≤ MAX_BUDGET)
  pub bins : (MIN_BINS ≤ s.bins) × (s.bins ≤ MAX_BINS)
  pub width : (1 ≤ s.width) × (s.width ≤ MAX_WIDTH)
  pub instruments : (1 ≤ s.instruments) × (s.instruments ≤ MAX_INSTRUMENTS)
