-- What contracts see of the gauge, of its writer and of its readers.
use Rattle.std.specs.Prelude.{◌≡◌, ℕ, List, map}
use Rattle.std.specs.List.{AllByRecursion}
use Rattle.atomic_table.specs.Seated.{TableId}
use Rattle.visi_run.specs.declared.dial.Reading.{Reading}
use Rattle.visi_run.specs.Readings.{Rises, IsReadingIn}

-- the cell, and how many readers it has
pub record Dial : Type 0 where
  pub cell : TableId
  pub readers : ℕ

-- the writer's list, and its cell
pub record Writer : Type 0 where
  pub cell : TableId
  pub list : List Reading

-- a reader's list, and its cell
pub record Reader : Type 0 where
  pub cell : TableId
  pub list : List Reading

-- all of one cell
abbrev pub AreOf : TableId → List Reader → Type 0
AreOf cell rs = AllByRecursion (λ (r : Reader). r.cell ≡ cell) rs

-- for proofs alone
abbrev pub lists_of : List Reader → List (List Reading)
lists_of rs = map (λ (r : Reader). r.list) rs

-- each list rises, and each of its readings stands in the writer's list
abbrev pub AllStand : List Reading → List Reader → Type 0
AllStand log rs = AllByRecursion (λ (r : Reader). Rises r.list × AllByRecursion (λ x. IsReadingIn log x) r.list) rs
