-- For proofs alone: the runs of free units that a space keeps.
use Rattle.std.specs.Prelude.{ℕ, ◌+◌, ◌-◌, ◌<◌, ◌≤◌, ◌==◌, List, [], ◌∷◌, ◌++◌, if◌then◌else◌, zero, suc}
use Rattle.std.specs.List.{insert, range_with_len}
use Rattle.tool_space.specs.declared.hole.Hole.{Hole}

-- The units of the holes, in order.
abbrev pub units_of : List Hole → List ℕ
units_of [] = []
units_of (hole ∷ holes) = range_with_len hole.at hole.len ++ units_of holes

-- The holes have units, lie from `low` up to `high` in order, and don't touch.
abbrev pub AreHoles : ℕ → ℕ → List Hole → Type 0
AreHoles low high [] = Unit {0}
AreHoles low high (hole ∷ holes) =
    (low ≤ hole.at) × (0 < hole.len) × (hole.at + hole.len ≤ high) × AreHoles (hole.at + hole.len + 1) high holes

-- The holes have units and lie from `low` up to `high` in order. They may touch.
abbrev pub InOrder : ℕ → ℕ → List Hole → Type 0
InOrder low high [] = Unit {0}
InOrder low high (hole ∷ holes) =
    (low ≤ hole.at) × (0 < hole.len) × (hole.at + hole.len ≤ high) × InOrder (hole.at + hole.len) high holes

-- What stands after the last hole.
abbrev pub no_hole : Hole
no_hole = record { at = 0; len = 0 }

-- The holes without the first units of the first one, and of the one at a place.
abbrev pub cut_first : ℕ → List Hole → List Hole
cut_first len [] = []
cut_first len (hole ∷ holes) =
    if hole.len == len then holes else (record { at = hole.at + len; len = hole.len - len } ∷ holes)

abbrev pub cut_at : ℕ → ℕ → List Hole → List Hole
cut_at len zero holes = cut_first len holes
cut_at len (suc place) [] = []
cut_at len (suc place) (hole ∷ holes) = hole ∷ cut_at len place holes

-- The holes where the first and the next are one if they touch, and where the one at a place and its next are.
abbrev pub join_first : List Hole → List Hole
join_first [] = []
join_first (hole ∷ []) = hole ∷ []
join_first (hole ∷ next ∷ holes) =
    if hole.at + hole.len == next.at
    then (record { at = hole.at; len = hole.len + next.len } ∷ holes)
    else (hole ∷ next ∷ holes)

abbrev pub join_at : ℕ → List Hole → List Hole
join_at zero holes = join_first holes
join_at (suc place) [] = []
join_at (suc place) (hole ∷ holes) = hole ∷ join_at place holes

-- The holes with one more at a place, which is joined with the next and with the one before it.
abbrev pub join_round : ℕ → List Hole → List Hole
join_round zero holes = join_at zero holes
join_round (suc place) holes = join_at place (join_at (suc place) holes)

abbrev pub put_at : Hole → ℕ → List Hole → List Hole
put_at hole place holes = join_round place (insert holes place hole)
