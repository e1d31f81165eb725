-- The units of holes, and the rooms in them.
use Rattle.std.proofs.Common.{◌≡◌, ℕ, ◌+◌, ◌<◌, ◌≤◌, ◌==◌, Bool, true, false, ◌||◌, List, [], ◌∷◌, ◌++◌, zero, suc, refl, sym, ◌∙◌, ap, arith, get_or, length, inl, inr}
use Rattle.std.specs.Prelude.{filter}
use Rattle.std.specs.List.{range_with_len}
use Rattle.std.proofs.lemmas.Bool.Decides.{leb_tells}
use Rattle.std.proofs.lemmas.List.Elements.{filter-append}
use Rattle.std.proofs.lemmas.List.Folds.{list_any-append}
use Rattle.tool_space.specs.Rooms.{is_one_of}
use Rattle.tool_space.specs.Holes.{AreHoles, no_hole, units_of}
use Rattle.tool_space.specs.declared.hole.Hole.{Hole}
use Rattle.tool_space.proofs.Ranges.{above_range, below_range, dropped_range, in_range, kept_range, or-second}

-- Each unit from `at` on is one of the list.
abbrev pub Room : List ℕ → ℕ → ℕ → Type 0
Room units at len = (unit : ℕ) → at ≤ unit → unit < at + len → is_one_of units unit ≡ true

one_of_first : (xs ys : List ℕ) (unit : ℕ) → is_one_of xs unit ≡ true → is_one_of (xs ++ ys) unit ≡ true
one_of_first xs ys unit e = list_any-append (λ other. other == unit) xs ys ∙ ap (λ b. b || is_one_of ys unit) e

one_of_second : (xs ys : List ℕ) (unit : ℕ) → is_one_of ys unit ≡ true → is_one_of (xs ++ ys) unit ≡ true
one_of_second xs ys unit e = list_any-append (λ other. other == unit) xs ys ∙ or-second (is_one_of xs unit) (is_one_of ys unit) e

one_of_rest : (xs ys : List ℕ) (unit : ℕ) → is_one_of xs unit ≡ false → is_one_of (xs ++ ys) unit ≡ is_one_of ys unit
one_of_rest xs ys unit e = list_any-append (λ other. other == unit) xs ys ∙ ap (λ b. b || is_one_of ys unit) e

-- No unit below the holes is free.
pub below_holes : (holes : List Hole) (low high unit : ℕ) → AreHoles low high holes → unit < low → is_one_of (units_of holes) unit ≡ false
below_holes [] low high unit are below = refl
below_holes (hole ∷ holes) low high unit are below =
    one_of_rest (range_with_len hole.at hole.len) (units_of holes) unit (below_range hole.at hole.len unit (omega (arith, are.0)))
    ∙ below_holes holes (hole.at + hole.len + 1) high unit are.3 (omega (arith, are.0))

-- The units of a hole are free.
pub in_hole : (holes : List Hole) (place unit : ℕ) → place < length holes → (get_or holes place no_hole).at ≤ unit → unit < (get_or holes place no_hole).at + (get_or holes place no_hole).len → is_one_of (units_of holes) unit ≡ true
in_hole [] place unit within low high = absurd (omega arith)
in_hole (hole ∷ holes) zero unit within low high =
    one_of_first (range_with_len hole.at hole.len) (units_of holes) unit (in_range hole.at hole.len unit low high)
in_hole (hole ∷ holes) (suc place) unit within low high =
    one_of_second (range_with_len hole.at hole.len) (units_of holes) unit (in_hole holes place unit (omega arith) low high)

-- A test doesn't hold and fail.
pub differ : {A : Type 0} (b : Bool) → b ≡ true → b ≡ false → A
differ b one other = let e : true ≡ false = sym one ∙ other in cc

-- There is no room below the first hole that is long enough.
pub no_room : (holes : List Hole) (place low high at len : ℕ) → AreHoles low high holes → 0 < len
    → ((k : ℕ) → k < place → k < length holes → (get_or holes k no_hole).len < len)
    → (place < length holes → at < (get_or holes place no_hole).at)
    → Room (units_of holes) at len → ⊥
no_room [] place low high at len are some short first room = differ false (room at (omega arith) (omega arith)) refl
no_room (hole ∷ holes) zero low high at len are some short first room =
    let below : at < hole.at = first (omega arith) in
    let same : AreHoles hole.at high (hole ∷ holes) = (omega arith, are.1, are.2, are.3) in
    differ (is_one_of (units_of (hole ∷ holes)) at) (room at (omega arith) (omega arith)) (below_holes (hole ∷ holes) hole.at high at same below)
no_room (hole ∷ holes) (suc place) low high at len are some short first room =
    let end : ℕ = hole.at + hole.len in
    let this : hole.len < len = short zero (omega arith) (omega arith) in
    elim (leb_tells at (hole.at + hole.len)) [
      | inl near ↦ elim (leb_tells hole.at at) [
        | inl there ↦ differ (is_one_of (units_of (hole ∷ holes)) (hole.at + hole.len)) (room (hole.at + hole.len) near.1 (omega (arith, there.1, this)))
            (one_of_rest (range_with_len hole.at hole.len) (units_of holes) (hole.at + hole.len) (above_range hole.at hole.len (hole.at + hole.len) (omega arith))
            ∙ below_holes holes (hole.at + hole.len + 1) high (hole.at + hole.len) are.3 (omega arith))
        | inr before ↦
            let same : AreHoles hole.at high (hole ∷ holes) = (omega arith, are.1, are.2, are.3) in
            differ (is_one_of (units_of (hole ∷ holes)) at) (room at (omega arith) (omega arith)) (below_holes (hole ∷ holes) hole.at high at same before.1)
      ]
      | inr far ↦
          no_room holes place (hole.at + hole.len + 1) high at len are.3 some
          (λ k before within. short (suc k) (omega arith) (omega arith))
          (λ within. first (omega arith))
          (λ unit low' high'. sym (one_of_rest (range_with_len hole.at hole.len) (units_of holes) unit (above_range hole.at hole.len unit (omega (arith, far.1)))) ∙ room unit low' high')
    ]

-- A filter that keeps, or drops, each unit from the holes' lower bound on.
pub kept_units : (p : ℕ → Bool) (holes : List Hole) (low high : ℕ) → AreHoles low high holes → ((unit : ℕ) → low ≤ unit → p unit ≡ true) → filter p (units_of holes) ≡ units_of holes
kept_units p [] low high are all = refl
kept_units p (hole ∷ holes) low high are all =
    let first : filter p (range_with_len hole.at hole.len) ≡ range_with_len hole.at hole.len =
    kept_range p hole.at hole.len (λ unit above below. all unit (omega (arith, are.0))) in
    let rest : filter p (units_of holes) ≡ units_of holes =
    kept_units p holes (hole.at + hole.len + 1) high are.3 (λ unit above. all unit (omega (arith, are.0))) in
    filter-append p (range_with_len hole.at hole.len) (units_of holes) ∙ (λ i. first i ++ rest i)

pub dropped_units : (p : ℕ → Bool) (holes : List Hole) (low high : ℕ) → AreHoles low high holes → ((unit : ℕ) → low ≤ unit → p unit ≡ false) → filter p (units_of holes) ≡ []
dropped_units p [] low high are all = refl
dropped_units p (hole ∷ holes) low high are all =
    let first : filter p (range_with_len hole.at hole.len) ≡ [] =
    dropped_range p hole.at hole.len (λ unit above below. all unit (omega (arith, are.0))) in
    let rest : filter p (units_of holes) ≡ [] =
    dropped_units p holes (hole.at + hole.len + 1) high are.3 (λ unit above. all unit (omega (arith, are.0))) in
    filter-append p (range_with_len hole.at hole.len) (units_of holes) ∙ (λ i. first i ++ rest i)
