-- Lists of readings.
use Rattle.std.specs.Prelude.{◌≡◌, ◌⊎◌, ◌≤◌, true, false, List, [], ◌∷◌}
use Rattle.std.specs.List.{AllByRecursion}
use Rattle.visi_run.specs.declared.dial.Reading.{Reading}

abbrev pub first_reading : Reading
first_reading = record { published = 0; ticks = 0; ended = false }

-- neither number falls, and an ended reading is followed by none but itself
abbrev pub Before : Reading → Reading → Type 0
Before x y = (x.published ≤ y.published) × (x.ticks ≤ y.ticks) × (x.ended ≡ true → y ≡ x)

-- of any two readings of the list, neither number of the later is below that of the earlier
abbrev pub Rises : List Reading → Type 0
Rises [] = Unit {0}
Rises (x ∷ xs) = AllByRecursion (Before x) xs × Rises xs

-- the reading stands in the list
abbrev pub IsReadingIn : List Reading → Reading → Type 0
IsReadingIn [] r = ⊥
IsReadingIn (x ∷ xs) r = (x ≡ r) ⊎ IsReadingIn xs r

abbrev pub last_from : Reading → List Reading → Reading
last_from x [] = x
last_from x (y ∷ ys) = last_from y ys

-- the last of the list; of an empty one, the first reading
abbrev pub last_of : List Reading → Reading
last_of xs = last_from first_reading xs

-- what may be set after this one
abbrev pub MayFollow : Reading → Reading → Type 0
MayFollow x y = (x.ended ≡ false) × (x.published ≤ y.published) × (x.ticks ≤ y.ticks)

-- the list begins with the first reading
abbrev pub Begins : List Reading → Type 0
Begins log = (rest : List Reading) × (log ≡ first_reading ∷ rest)
