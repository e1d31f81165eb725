-- For proofs alone: the rule of the gauge's cell. What it holds is the last reading of the writer's list, and each reading of a
-- reader's list stands in the writer's list.
use Rattle.std.specs.Prelude.{◌≡◌, ℕ, Bool, true, false, List, [], ◌∷◌, ◌++◌}
use Rattle.std.specs.List.{AllByRecursion}
use mathlib.Core.Option.{some}
use lib.ListN.{get_elem?}
use Rattle.visi_run.specs.declared.dial.Reading.{Reading}
use Rattle.visi_run.specs.declared.sight.Sight.{Sight}
use Rattle.visi_run.specs.Readings.{first_reading, Before, Rises, IsReadingIn, last_of, Begins}

-- what the rule says of a reader's list, where the cell holds now
abbrev pub IsSeen : List Reading → Reading → List Reading → Type 0
IsSeen log now rs = Rises rs × AllByRecursion (λ r. IsReadingIn log r) rs × AllByRecursion (λ r. Before r now) rs

-- what the rule says of one pass
abbrev pub Fits : ℕ → List Reading → Reading → ℕ → Sight → Type 0
Fits writer log now by v = (v.sets ≡ true → (by ≡ writer) × (v.wrote ≡ log)) × AllByRecursion (IsSeen log now) v.lists

-- the rule: what the cell holds, and all passes
pub record GaugeRule (now : Reading) (views : List Sight) : Type 0 where
  pub writer : ℕ
  pub log : List Reading
  pub begins : Begins log
  pub last : now ≡ last_of log
  pub rises : Rises log
  pub below : AllByRecursion (λ r. Before r now) log
  pub fits : (by : ℕ) (v : Sight) → get_elem? views by ≡ some v → Fits writer log now by v

abbrev pub sight : Bool → List Reading → List (List Reading) → Sight
sight a log lists = record { sets = a; wrote = log; lists = lists }

-- the first pass
abbrev pub opening_sight : Sight
opening_sight = sight true (first_reading ∷ []) []

-- a reader's pass
abbrev pub reading : List Reading → Sight
reading rs = sight false [] (rs ∷ [])

-- the writer's pass
abbrev pub writing : List Reading → Sight
writing log = sight true log []

-- a pass whose view went to another
abbrev pub empty_pass : Sight
empty_pass = sight false [] []

abbrev pub together : Sight → Sight → Sight
together v w = sight v.sets v.wrote (v.lists ++ w.lists)

abbrev pub has_set : Reading → Sight → Sight
has_set y v = sight v.sets (v.wrote ++ y ∷ []) v.lists

-- the reading is put at the end of the first list
abbrev pub longer_list : Reading → List (List Reading) → List (List Reading)
longer_list y [] = []
longer_list y (rs ∷ rss) = (rs ++ y ∷ []) ∷ rss

abbrev pub has_read : Reading → Sight → Sight
has_read y v = sight v.sets v.wrote (longer_list y v.lists)

-- what the writer learns at the end
pub record Settles (v : Sight) (now : Reading) : Type 0 where
  pub begins : Begins v.wrote
  pub last : now ≡ last_of v.wrote
  pub rises : Rises v.wrote
  pub lists : AllByRecursion (λ rs. Rises rs × AllByRecursion (λ r. IsReadingIn v.wrote r) rs) v.lists

abbrev pub first_of : List (List Reading) → List Reading
first_of [] = []
first_of (rs ∷ rss) = rs

-- the list of a pass with one reader
abbrev pub list_of : Sight → List Reading
list_of v = first_of v.lists
