-- The places of the points at which pieces are chosen.
use Rattle.std.proofs.Common.{◌≡◌, ℕ, ◌==◌, ◌||◌, Bool, true, false, List, [], length, get_or, refl, inl, inr, ◌⊎◌}
use Rattle.std.specs.List.{filter, list_any}
use Rattle.std.proofs.lemmas.Bool.{false≢true}
use Rattle.pn_types.specs.declared.code.Point.{Point}
use Rattle.mdl_plan.specs.Indexes.{AreByProcedure, gathered}
use Rattle.mdl_plan.specs.Sparse.{AddsPlaces}
use Rattle.mdl_plan.specs.ChosenPieces.{HavePlaces, IsOver, has_numbers, is_some_number, numbers_if}
use Rattle.mdl_plan.specs.declared.chosen_pieces.ChosenPieces.{ChosenPieces}
use Rattle.mdl_plan.proofs.GatheredPoints.{filter_gathered}
use Rattle.mdl_plan.proofs.Limits.{ascend_from}

either : (a b : Bool) → a || b ≡ true → (a ≡ true) ⊎ (b ≡ true)
either true b e = inl refl
either false b e = inr e

some_wanted : (b : Bool) (lists : List (List ℕ)) (q : ℕ) → is_some_number (numbers_if b lists q) ≡ true → is_some_number (get_or lists q []) ≡ true
some_wanted true lists q e = e
some_wanted false lists q e = absurd (false≢true e)

-- what follows of each list with a number follows where a piece is chosen
by_kind : (t : ChosenPieces) (p : Point) (C : Type 0)
    → (is_some_number (get_or t.entry p.proc_no []) ≡ true → C) → (is_some_number (get_or t.after p.proc_no []) ≡ true → C)
    → (is_some_number (get_or t.ret p.proc_no []) ≡ true → C) → (is_some_number (get_or t.call p.proc_no []) ≡ true → C)
    → has_numbers t p ≡ true → C
by_kind t p C at_entry at_after at_ret at_call e =
    elim (either (is_some_number (numbers_if p.entry t.entry p.proc_no)) (is_some_number (numbers_if p.after t.after p.proc_no)
    || (is_some_number (numbers_if p.ret t.ret p.proc_no) || is_some_number (numbers_if p.call t.call p.proc_no))) e) [
      | inl h ↦ at_entry (some_wanted p.entry t.entry p.proc_no h)
      | inr g ↦ elim (either (is_some_number (numbers_if p.after t.after p.proc_no)) (is_some_number (numbers_if p.ret t.ret p.proc_no) || is_some_number (numbers_if p.call t.call p.proc_no)) g) [
        | inl h ↦ at_after (some_wanted p.after t.after p.proc_no h)
        | inr k ↦ elim (either (is_some_number (numbers_if p.ret t.ret p.proc_no)) (is_some_number (numbers_if p.call t.call p.proc_no)) k) [
          | inl h ↦ at_ret (some_wanted p.ret t.ret p.proc_no h)
          | inr h ↦ at_call (some_wanted p.call t.call p.proc_no h)
        ]
      ]
    ]

-- the places that are added for each kind hold those of all points at which a piece is chosen
pub all_added : (t : ChosenPieces) (by_proc : List (List ℕ)) (none entry after ret call : List ℕ)
    → AddsPlaces t.entry by_proc none entry → AddsPlaces t.after by_proc entry after → AddsPlaces t.ret by_proc after ret → AddsPlaces t.call by_proc ret call
    → (p : Point) (i : ℕ) → has_numbers t p ≡ true → list_any (λ j. j == i) (get_or by_proc p.proc_no []) ≡ true → list_any (λ j. j == i) call ≡ true
all_added t by_proc none entry after ret call a b c d p i chosen there =
    by_kind t p (list_any (λ j. j == i) call ≡ true)
    (λ h. d.kept i (c.kept i (b.kept i (a.added p.proc_no i h there))))
    (λ h. d.kept i (c.kept i (b.added p.proc_no i h there)))
    (λ h. d.kept i (c.added p.proc_no i h there))
    (λ h. d.added p.proc_no i h there)
    chosen

-- at no other points a piece is chosen
pub all_reached : (t : ChosenPieces) (points : List Point) (by_proc : List (List ℕ)) (places : List ℕ) → AreByProcedure points by_proc → IsOver (length by_proc) t → HavePlaces t by_proc places
    → filter (has_numbers t) (gathered points places) ≡ filter (has_numbers t) points
all_reached t points by_proc places are over h =
    filter_gathered (has_numbers t) points places (ascend_from places h.ascend) (λ i p at chosen. h.each p i chosen (are i p at (over p chosen)))
