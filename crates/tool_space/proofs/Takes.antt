-- A hole is cut at its front.
use Rattle.std.proofs.Common.{◌≡◌, ℕ, ◌+◌, ◌-◌, ◌<◌, ◌≤◌, Bool, true, false, not, List, [], ◌∷◌, ◌++◌, zero, suc, refl, sym, ◌∙◌, ap, subst, arith, get_or, length, inl, inr}
use Rattle.std.specs.Prelude.{filter}
use Rattle.std.specs.List.{range_with_len}
use Rattle.std.proofs.lemmas.Bool.Decides.{eqb_tells, nat_tests}
use Rattle.std.proofs.lemmas.List.Elements.{filter-append}
use Rattle.tool_space.specs.Rooms.{IsLowestRoom, IsRoom, Rooms, is_one_of, is_within}
use Rattle.tool_space.specs.Holes.{AreHoles, cut_at, no_hole, units_of}
use Rattle.tool_space.specs.declared.hole.Hole.{Hole}
use Rattle.tool_space.proofs.Places.{Lies, lies_apart}
use Rattle.tool_space.proofs.Ranges.{dropped_range, kept_range, range_parts}
use Rattle.tool_space.proofs.Units.{in_hole, kept_units, no_room}

-- Not one of the units that are taken.
abbrev pub stays : ℕ → ℕ → ℕ → Bool
stays at len unit = not (is_within at len unit)

below_stays : (at len unit : ℕ) → unit < at → stays at len unit ≡ true
below_stays at len unit below = grind (arith, nat_tests)

above_stays : (at len unit : ℕ) → at + len ≤ unit → stays at len unit ≡ true
above_stays at len unit above = grind (arith, nat_tests)

within_goes : (at len unit : ℕ) → at ≤ unit → unit < at + len → stays at len unit ≡ false
within_goes at len unit low high = grind (arith, nat_tests)

front_cut : (at all len : ℕ) → len ≤ all → filter (stays at len) (range_with_len at all) ≡ range_with_len (at + len) (all - len)
front_cut at all len le =
    let sum : all ≡ len + (all - len) = omega arith in
    let front : filter (stays at len) (range_with_len at len) ≡ [] = dropped_range (stays at len) at len (λ unit low high. within_goes at len unit low high) in
    let back : filter (stays at len) (range_with_len (at + len) (all - len)) ≡ range_with_len (at + len) (all - len) =
    kept_range (stays at len) (at + len) (all - len) (λ unit low high. above_stays at len unit low) in
    ap (filter (stays at len)) (ap (range_with_len at) sum ∙ range_parts at len (all - len) (at + len) refl)
    ∙ filter-append (stays at len) (range_with_len at len) (range_with_len (at + len) (all - len))
    ∙ (λ i. front i ++ back i)

-- What is free once the hole at a place is cut.
pub units_cut : (holes : List Hole) (place low high len : ℕ) → AreHoles low high holes → place < length holes → len ≤ (get_or holes place no_hole).len
    → units_of (cut_at len place holes) ≡ filter (stays (get_or holes place no_hole).at len) (units_of holes)
units_cut [] place low high len are within fits = absurd (omega arith)
units_cut (hole ∷ holes) zero low high len are within fits =
    let right : filter (stays hole.at len) (units_of (hole ∷ holes)) ≡ range_with_len (hole.at + len) (hole.len - len) ++ units_of holes =
    filter-append (stays hole.at len) (range_with_len hole.at hole.len) (units_of holes)
    ∙ (λ i. front_cut hole.at hole.len len fits i ++ kept_units (stays hole.at len) holes (hole.at + hole.len + 1) high are.3 (λ unit above. above_stays hole.at len unit (omega arith)) i) in
    elim (eqb_tells hole.len len) [
      | inl same ↦
          let none : hole.len - len ≡ 0 = omega (arith, same.1) in
          rw same.0 (sym (right ∙ ap (λ n. range_with_len (hole.at + len) n ++ units_of holes) none))
      | inr other ↦ rw other.0 (sym right)
    ]
units_cut (hole ∷ holes) (suc place) low high len are within fits =
    let there : Lies (hole.at + hole.len + 1) high (get_or holes place no_hole) = lies_apart holes place (hole.at + hole.len + 1) high are.3 (omega arith) in
    let first : filter (stays (get_or holes place no_hole).at len) (range_with_len hole.at hole.len) ≡ range_with_len hole.at hole.len =
    kept_range (stays (get_or holes place no_hole).at len) hole.at hole.len (λ unit low' high'. below_stays (get_or holes place no_hole).at len unit (omega (arith, there.low_end))) in
    let rest : filter (stays (get_or holes place no_hole).at len) (units_of holes) ≡ units_of (cut_at len place holes) =
    sym (units_cut holes place (hole.at + hole.len + 1) high len are.3 (omega arith) fits) in
    sym (filter-append (stays (get_or holes place no_hole).at len) (range_with_len hole.at hole.len) (units_of holes) ∙ (λ i. first i ++ rest i))

-- A lower bound may be lower.
pub from_lower : (holes : List Hole) (low low' high : ℕ) → low ≤ low' → AreHoles low' high holes → AreHoles low high holes
from_lower [] low low' high le are = tt
from_lower (hole ∷ holes) low low' high le are = (omega (arith, are.0), are.1, are.2, are.3)

-- Holes stay holes when one is cut.
pub holes_cut : (holes : List Hole) (place low high len : ℕ) → AreHoles low high holes → place < length holes → len ≤ (get_or holes place no_hole).len
    → AreHoles low high (cut_at len place holes)
holes_cut [] place low high len are within fits = absurd (omega arith)
holes_cut (hole ∷ holes) zero low high len are within fits =
    elim (eqb_tells hole.len len) [
      | inl same ↦ rw same.0 (from_lower holes low (hole.at + hole.len + 1) high (omega (arith, are.0)) are.3)
      | inr other ↦
          let more : len < hole.len = omega (arith, other.1, fits) in
          let end : hole.at + len + (hole.len - len) ≡ hole.at + hole.len = omega (arith, fits) in
          rw other.0 (
            omega (arith, are.0),
            omega (arith, more),
            omega (arith, end, are.2),
            subst (λ (n : ℕ). AreHoles (n + 1) high holes) (sym end) are.3,
          )
    ]
holes_cut (hole ∷ holes) (suc place) low high len are within fits =
    (are.0, are.1, are.2, holes_cut holes place (hole.at + hole.len + 1) high len are.3 (omega arith) fits)

-- The front of the first hole that is long enough is the lowest room.
pub lowest_at : (space : Rooms) (holes : List Hole) (place low high at len : ℕ) → units_of holes ≡ space.free → AreHoles low high holes → 0 < len
    → place < length holes → at ≡ (get_or holes place no_hole).at → len ≤ (get_or holes place no_hole).len
    → ((k : ℕ) → k < place → (get_or holes k no_hole).len < len)
    → IsLowestRoom space at len
lowest_at space holes place low high at len free are some within here fits before = record {
  free = λ unit above below. subst (λ (units : List ℕ). is_one_of units unit ≡ true) free (in_hole holes place unit within (omega (arith, here)) (omega (arith, here, fits)));
  lowest = λ lower below room. no_room holes place low high lower len are some (λ k lt inside. before k lt) (λ inside. omega (arith, here))
      (λ unit above under. subst (λ (units : List ℕ). is_one_of units unit ≡ true) (sym free) (room unit above under));
}

-- Where no hole is long enough there is no room.
pub none_at : (space : Rooms) (holes : List Hole) (low high len : ℕ) → units_of holes ≡ space.free → AreHoles low high holes → 0 < len
    → ((k : ℕ) → k < length holes → (get_or holes k no_hole).len < len)
    → (at : ℕ) → IsRoom space at len → ⊥
none_at space holes low high len free are some short at room =
    no_room holes (length holes) low high at len are some (λ k lt inside. short k inside) (λ inside. absurd (omega arith))
    (λ unit above under. subst (λ (units : List ℕ). is_one_of units unit ≡ true) (sym free) (room unit above under))
