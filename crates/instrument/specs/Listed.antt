-- For proofs alone: the listed instruments are in the order of their numbers.
use Rattle.std.specs.Prelude.{ℕ, ◌<◌, List, [], ◌∷◌}
use Rattle.machine.specs.Cores.{In}
use Rattle.instrument.specs.declared.instrument.Instrument.{Instrument}

-- each instrument has a lower number than those after it
abbrev pub AreInOrder : List Instrument → Type 0
AreInOrder [] = Unit {0}
AreInOrder (i ∷ is) = ((j : Instrument) → In j is → i.no < j.no) × AreInOrder is

-- all of them have lower numbers than this one
abbrev pub AreNumberedBelow : ℕ → List Instrument → Type 0
AreNumberedBelow n is = (i : Instrument) → In i is → i.no < n
