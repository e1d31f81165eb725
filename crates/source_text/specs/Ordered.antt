-- Elements by a number of each.
use Rattle.std.specs.Prelude.{ℕ, nat_le, if◌then◌else◌, List, [], ◌∷◌}

-- an element put before those of its number and above
abbrev pub insert_by : {X : Type 0} → (X → ℕ) → X → List X → List X
insert_by n x [] = x ∷ []
insert_by n x (y ∷ ys) = if nat_le (n x) (n y) then x ∷ (y ∷ ys) else y ∷ insert_by n x ys

-- elements by ascending number, ties in their order
abbrev pub ordered_by : {X : Type 0} → (X → ℕ) → List X → List X
ordered_by n [] = []
ordered_by n (x ∷ xs) = insert_by n x (ordered_by n xs)
