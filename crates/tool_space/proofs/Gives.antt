-- A hole is put between others, and joined with its neighbours.
use Rattle.std.proofs.Common.{◌≡◌, ℕ, ◌+◌, ◌<◌, ◌≤◌, Bool, true, false, List, [], ◌∷◌, ◌++◌, zero, suc, refl, sym, ◌∙◌, ap, subst, arith, get_or, length, append_assoc, inl, inr}
use Rattle.std.specs.Prelude.{filter, nat_lt}
use Rattle.std.specs.List.{insert, range_with_len}
use Rattle.std.proofs.lemmas.Bool.Decides.{eqb_tells, leb_tells, nat_tests}
use Rattle.std.proofs.lemmas.List.Elements.{filter-append}
use Rattle.tool_space.specs.Rooms.{IsTaken, Rooms, is_one_of}
use Rattle.tool_space.specs.Holes.{AreHoles, InOrder, join_at, join_first, join_round, no_hole, put_at, units_of}
use Rattle.tool_space.specs.declared.hole.Hole.{Hole}
use Rattle.tool_space.proofs.Places.{Lies, in_order, lies_apart}
use Rattle.tool_space.proofs.Ranges.{dropped_range, kept_range, range_parts}
use Rattle.tool_space.proofs.Takes.{from_lower}
use Rattle.tool_space.proofs.Units.{differ, dropped_units, in_hole, kept_units}

-- A hole fits at a place: those before it end before it, and the next begins after it.
pub record FitsAt (holes : List Hole) (place low high : ℕ) (new : Hole) : Type 0 where
  pub within : place ≤ length holes
  pub low_end : low ≤ new.at
  pub some : 0 < new.len
  pub high_end : new.at + new.len ≤ high
  pub before : (k : ℕ) → k < place → (get_or holes k no_hole).at + (get_or holes k no_hole).len ≤ new.at
  pub after : place < length holes → new.at + new.len ≤ (get_or holes place no_hole).at

-- Units that aren't free lie between the holes.
pub fits_at : (holes : List Hole) (place low high : ℕ) (new : Hole) → AreHoles low high holes → place ≤ length holes
    → low ≤ new.at → 0 < new.len → new.at + new.len ≤ high
    → ((unit : ℕ) → new.at ≤ unit → unit < new.at + new.len → is_one_of (units_of holes) unit ≡ false)
    → ((k : ℕ) → k < place → (get_or holes k no_hole).at ≤ new.at)
    → (place < length holes → new.at < (get_or holes place no_hole).at)
    → FitsAt holes place low high new
fits_at holes place low high new are within low' some high' taken below above = record {
  within = within;
  low_end = low';
  some = some;
  high_end = high';
  before = λ k lt.
      elim (leb_tells ((get_or holes k no_hole).at + (get_or holes k no_hole).len) new.at) [
        | inl ends ↦ ends.1
        | inr over ↦ differ (is_one_of (units_of holes) new.at) (in_hole holes k new.at (omega arith) (below k lt) over.1) (taken new.at (omega arith) (omega arith))
      ];
  after = λ inside.
      elim (leb_tells (new.at + new.len) (get_or holes place no_hole).at) [
        | inl ends ↦ ends.1
        | inr over ↦
            let there : Lies low high (get_or holes place no_hole) = lies_apart holes place low high are inside in
            let past : new.at < (get_or holes place no_hole).at = above inside in
            differ (is_one_of (units_of holes) (get_or holes place no_hole).at) (in_hole holes place (get_or holes place no_hole).at inside (omega arith) (omega (arith, there.some)))
            (taken (get_or holes place no_hole).at (omega (arith, past)) over.1)
      ];
}

-- So a room that was taken fits.
pub taken_fits : (space : Rooms) (holes shown : List Hole) (place at len : ℕ) → AreHoles space.from space.end holes → units_of holes ≡ space.free → IsTaken space at len
    → 0 < len → shown ≡ holes → place ≤ length shown
    → ((k : ℕ) → k < place → (get_or shown k no_hole).at ≤ at)
    → (place < length shown → at < (get_or shown place no_hole).at)
    → FitsAt holes place space.from space.end (record { at = at; len = len })
taken_fits space holes shown place at len are free taken some same within below above =
    fits_at holes place space.from space.end (record { at = at; len = len }) are
    (subst (λ (hs : List Hole). place ≤ length hs) same within)
    taken.low some taken.high
    (λ unit l h. subst (λ (units : List ℕ). is_one_of units unit ≡ false) (sym free) (taken.taken unit l h))
    (subst (λ (hs : List Hole). (k : ℕ) → k < place → (get_or hs k no_hole).at ≤ at) same below)
    (subst (λ (hs : List Hole). place < length hs → at < (get_or hs place no_hole).at) same above)

-- Bounds may be wider.
pub wider : (holes : List Hole) (low low' high high' : ℕ) → low ≤ low' → high' ≤ high → InOrder low' high' holes → InOrder low high holes
wider [] low low' high high' l h order = tt
wider (hole ∷ holes) low low' high high' l h order =
    (omega (arith, order.0), order.1, omega (arith, order.2), wider holes (hole.at + hole.len) (hole.at + hole.len) high high' (omega arith) h order.3)

-- After the first hole the same holds of the rest.
fits_rest : (hole : Hole) (holes : List Hole) (place low high low' : ℕ) (new : Hole) → FitsAt (hole ∷ holes) (suc place) low high new → low' ≤ new.at → FitsAt holes place low' high new
fits_rest hole holes place low high low' new fits le = record {
  within = omega (arith, fits.within);
  low_end = le;
  some = fits.some;
  high_end = fits.high_end;
  before = λ k lt. fits.before (suc k) (omega arith);
  after = λ inside. fits.after (omega arith);
}

pub put_in_order : (holes : List Hole) (place low high : ℕ) (new : Hole) → AreHoles low high holes → FitsAt holes place low high new → InOrder low high (insert holes place new)
put_in_order [] zero low high new are fits = (fits.low_end, fits.some, fits.high_end, tt)
put_in_order (hole ∷ holes) zero low high new are fits = (
  fits.low_end,
  fits.some,
  fits.high_end,
  (
    fits.after (omega arith),
    are.1,
    are.2,
    in_order holes (hole.at + hole.len) (hole.at + hole.len + 1) high high (omega arith) (omega arith) are.3,
  ),
)
put_in_order [] (suc place) low high new are fits = absurd (omega (arith, fits.within))
put_in_order (hole ∷ holes) (suc place) low high new are fits = (
  are.0,
  are.1,
  are.2,
  put_in_order holes place (hole.at + hole.len) high new (from_lower holes (hole.at + hole.len) (hole.at + hole.len + 1) high (omega arith) are.3)
      (fits_rest hole holes place low high (hole.at + hole.len) new fits (fits.before zero (omega arith))),
)

pub join_in_order : (holes : List Hole) (place low high : ℕ) → InOrder low high holes → InOrder low high (join_at place holes)
join_in_order [] zero low high order = tt
join_in_order (hole ∷ []) zero low high order = order
join_in_order (hole ∷ next ∷ holes) zero low high order =
    elim (eqb_tells (hole.at + hole.len) next.at) [
      | inl touch ↦
          let end : next.at + next.len ≡ hole.at + (hole.len + next.len) = omega (arith, touch.1) in
          rw touch.0 (order.0, omega (arith, order.1), omega (arith, end, order.3.2), subst (λ (n : ℕ). InOrder n high holes) end order.3.3)
      | inr apart ↦ rw apart.0 order
    ]
join_in_order [] (suc place) low high order = tt
join_in_order (hole ∷ holes) (suc place) low high order = (order.0, order.1, order.2, join_in_order holes place (hole.at + hole.len) high order.3)

-- Joining changes no unit.
units_joined : (holes : List Hole) (place : ℕ) → units_of (join_at place holes) ≡ units_of holes
units_joined [] zero = refl
units_joined (hole ∷ []) zero = refl
units_joined (hole ∷ next ∷ holes) zero =
    elim (eqb_tells (hole.at + hole.len) next.at) [
      | inl touch ↦ rw touch.0 (ap (λ units. units ++ units_of holes) (range_parts hole.at hole.len next.len next.at touch.1)
          ∙ append_assoc (range_with_len hole.at hole.len) (range_with_len next.at next.len) (units_of holes))
      | inr apart ↦ rw apart.0 refl
    ]
units_joined [] (suc place) = refl
units_joined (hole ∷ holes) (suc place) = ap (λ units. range_with_len hole.at hole.len ++ units) (units_joined holes place)

units_round : (holes : List Hole) (place : ℕ) → units_of (join_round place holes) ≡ units_of holes
units_round holes zero = units_joined holes zero
units_round holes (suc place) = units_joined (join_at (suc place) holes) place ∙ units_joined holes (suc place)

abbrev below : ℕ → ℕ → Bool
below at unit = nat_lt unit at

abbrev above : ℕ → ℕ → Bool
above at unit = nat_lt at unit

is_below : (at unit : ℕ) → unit < at → below at unit ≡ true
is_below at unit lt = grind (arith, nat_tests)

not_below : (at unit : ℕ) → at ≤ unit → below at unit ≡ false
not_below at unit le = grind (arith, nat_tests)

from_here : (holes : List Hole) (low low' high : ℕ) → AreHoles low high holes → (0 < length holes → low' ≤ (get_or holes 0 no_hole).at) → AreHoles low' high holes
from_here [] low low' high are first = tt
from_here (hole ∷ holes) low low' high are first = (first (omega arith), are.1, are.2, are.3)

-- The units below, the units that are put, and the units above.
units_between : (holes : List Hole) (place low high : ℕ) (new : Hole) → AreHoles low high holes → FitsAt holes place low high new
    → units_of (insert holes place new) ≡ filter (below new.at) (units_of holes) ++ (range_with_len new.at new.len ++ filter (above new.at) (units_of holes))
units_between holes zero low high new are fits =
    let here : AreHoles (new.at + new.len) high holes = from_here holes low (new.at + new.len) high are fits.after in
    let none : [] ≡ filter (below new.at) (units_of holes) =
    sym (dropped_units (below new.at) holes (new.at + new.len) high here (λ unit le. not_below new.at unit (omega arith))) in
    let all : units_of holes ≡ filter (above new.at) (units_of holes) =
    sym (kept_units (above new.at) holes (new.at + new.len) high here (λ unit le. is_below unit new.at (omega (arith, fits.some)))) in
    λ i. none i ++ (range_with_len new.at new.len ++ all i)
units_between [] (suc place) low high new are fits = absurd (omega (arith, fits.within))
units_between (hole ∷ holes) (suc place) low high new are fits =
    let ends : hole.at + hole.len ≤ new.at = fits.before zero (omega arith) in
    let low' : ℕ = hole.at + hole.len in
    let rest : units_of (insert holes place new) ≡ filter (below new.at) (units_of holes) ++ (range_with_len new.at new.len ++ filter (above new.at) (units_of holes)) =
    units_between holes place (hole.at + hole.len) high new (from_lower holes (hole.at + hole.len) (hole.at + hole.len + 1) high (omega arith) are.3)
    (fits_rest hole holes place low high (hole.at + hole.len) new fits ends) in
    let kept : filter (below new.at) (range_with_len hole.at hole.len ++ units_of holes) ≡ range_with_len hole.at hole.len ++ filter (below new.at) (units_of holes) =
    filter-append (below new.at) (range_with_len hole.at hole.len) (units_of holes)
    ∙ ap (λ units. units ++ filter (below new.at) (units_of holes)) (kept_range (below new.at) hole.at hole.len (λ unit l h. is_below new.at unit (omega (arith, ends)))) in
    let dropped : filter (above new.at) (range_with_len hole.at hole.len ++ units_of holes) ≡ filter (above new.at) (units_of holes) =
    filter-append (above new.at) (range_with_len hole.at hole.len) (units_of holes)
    ∙ ap (λ units. units ++ filter (above new.at) (units_of holes)) (dropped_range (above new.at) hole.at hole.len (λ unit l h. not_below unit new.at (omega (arith, ends)))) in
    ap (λ units. range_with_len hole.at hole.len ++ units) rest
    ∙ sym (append_assoc (range_with_len hole.at hole.len) (filter (below new.at) (units_of holes)) (range_with_len new.at new.len ++ filter (above new.at) (units_of holes)))
    ∙ sym (λ i. kept i ++ (range_with_len new.at new.len ++ dropped i))

pub units_put : (holes : List Hole) (place low high : ℕ) (new : Hole) → AreHoles low high holes → FitsAt holes place low high new
    → units_of (put_at new place holes) ≡ filter (below new.at) (units_of holes) ++ (range_with_len new.at new.len ++ filter (above new.at) (units_of holes))
units_put holes place low high new are fits = units_round (insert holes place new) place ∙ units_between holes place low high new are fits

-- A hole in front of others, joined with the first if it touches it.
front : (hole : Hole) (holes : List Hole) (low high : ℕ) → low ≤ hole.at → 0 < hole.len → hole.at + hole.len ≤ high → AreHoles (hole.at + hole.len) high holes → AreHoles low high (join_first (hole ∷ holes))
front hole [] low high le some end are = (le, some, end, tt)
front hole (next ∷ holes) low high le some end are =
    elim (eqb_tells (hole.at + hole.len) next.at) [
      | inl touch ↦
          let both : next.at + next.len ≡ hole.at + (hole.len + next.len) = omega (arith, touch.1) in
          rw touch.0 (le, omega arith, omega (arith, both, are.2), subst (λ (n : ℕ). AreHoles (n + 1) high holes) both are.3)
      | inr apart ↦ rw apart.0 (le, some, end, (omega (arith, apart.1, are.0), are.1, are.2, are.3))
    ]

-- Holes stay holes when one is put between them.
pub holes_put : (holes : List Hole) (place low high : ℕ) (new : Hole) → AreHoles low high holes → FitsAt holes place low high new → AreHoles low high (put_at new place holes)
holes_put holes zero low high new are fits =
    front new holes low high fits.low_end fits.some fits.high_end (from_here holes low (new.at + new.len) high are fits.after)
holes_put [] (suc place) low high new are fits = absurd (omega (arith, fits.within))
holes_put (hole ∷ holes) (suc zero) low high new are fits =
    front hole (join_first (new ∷ holes)) low high are.0 are.1 are.2
    (front new holes (hole.at + hole.len) high (fits.before zero (omega arith)) fits.some fits.high_end
    (from_here holes (hole.at + hole.len + 1) (new.at + new.len) high are.3 (λ inside. fits.after (omega arith))))
holes_put (hole ∷ []) (suc (suc place)) low high new are fits = absurd (omega (arith, fits.within))
holes_put (hole ∷ next ∷ holes) (suc (suc place)) low high new are fits =
    let ends : next.at + next.len ≤ new.at = fits.before (suc zero) (omega arith) in (
      are.0,
      are.1,
      are.2,
      holes_put (next ∷ holes) (suc place) (hole.at + hole.len + 1) high new are.3
          (fits_rest hole (next ∷ holes) (suc place) low high (hole.at + hole.len + 1) new fits (omega (arith, ends, are.3.0))),
    )
