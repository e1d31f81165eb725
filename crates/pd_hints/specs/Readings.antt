-- What reading files again leaves of them.
use Rattle.std.specs.Prelude.{◌≡◌, ℕ, ◌≤◌, List}
use Rattle.outside.specs.Outside.{Holding}

-- What each file holds stays the same, and no count of faults falls.
pub record OnlyReads {F : Type 0} (holds : F → List ℕ → Holding) (faults : F → List ℕ → ℕ) (old new : F) : Type 0 where
  pub same : (name : List ℕ) → holds new name ≡ holds old name
  pub rising : (name : List ℕ) → faults old name ≤ faults new name
