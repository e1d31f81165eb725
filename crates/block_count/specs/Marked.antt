-- For proofs alone: marks on the words of a text.
use Rattle.std.specs.Prelude.{ℕ, ◌-◌, ◌/◌, Bool, false, List, get_or}

-- the word at an address is marked, where the first is at `at`
abbrev pub marked_in : ℕ → List Bool → ℕ → Bool
marked_in at marks a = get_or marks ((a - at) / 4) false
