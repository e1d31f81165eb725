-- For proofs alone: lists by procedure of which most are empty.
use Rattle.std.specs.Prelude.{ℕ, ◌≡◌, ◌+◌, ◌==◌, nat_lt, true, Some, List, [], ◌∷◌, length, map, slice_get, slice_index, slice_index_or}
use Rattle.std.specs.List.{list_any}

-- row number r, of which the first has number 1 and number 0 is empty
abbrev pub row_at : List (List ℕ) → ℕ → List ℕ
row_at rows r = slice_index_or ([] ∷ rows) r []

-- the rows of these numbers
abbrev pub rows_of : List ℕ → List (List ℕ) → List (List ℕ)
rows_of numbers rows = map (row_at rows) numbers

-- each procedure's row is its own: the numbers of the rows by procedure, and the rows' owners
abbrev pub AreOwn : List ℕ → List ℕ → Type 0
AreOwn numbers owners = (q r : ℕ) → slice_index numbers q ≡ r + 1 → slice_get owners r ≡ Some q

-- To the places that were there are added those of each procedure whose list has a number.
pub record AddsPlaces (lists by_proc : List (List ℕ)) (old new : List ℕ) : Type 0 where
  pub kept : (i : ℕ) → list_any (λ j. j == i) old ≡ true → list_any (λ j. j == i) new ≡ true
  pub added : (q i : ℕ) → nat_lt 0 (length (slice_index_or lists q [])) ≡ true
      → list_any (λ j. j == i) (slice_index_or by_proc q []) ≡ true → list_any (λ j. j == i) new ≡ true
