-- For proofs alone: what is known of the numbers of instruments.
use Rattle.std.specs.Prelude.{◌≡◌, ℕ, ◌<◌, List, [], ◌∷◌}
use Rattle.machine.specs.Cores.{In}
use Rattle.instrument.specs.Numbers.{IsNumbered}
use Rattle.instrument.specs.Placements.{Placements}
use Rattle.instrument.specs.declared.instrument.Instrument.{Instrument}
use Rattle.session_spec.specs.declared.data.MetricFocusPair.{MetricFocusPair}

-- no two instruments have one number, and each number is below that of all that were admitted
pub record AreNumbered (p : Placements) : Type 0 where
  pub numbered : IsNumbered p
  pub single : (x y : Instrument) → In x p.instruments → In y p.instruments → x.no ≡ y.no → x ≡ y

-- the numbers of what is shown are below this one
abbrev pub AreBelow : ℕ → List MetricFocusPair → Type 0
AreBelow count [] = Unit {0}
AreBelow count (s ∷ ss) = (s.instrument.n < count) × AreBelow count ss
