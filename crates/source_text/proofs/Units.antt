-- Units by their places.
use Rattle.std.proofs.Common.{◌≡◌, ℕ, ◌<◌, ◌≤◌, List, [], ◌∷◌, length, get_or, map, Bool, true, false, eqb, ltb, Option, Some, None, refl, ap, sym, ◌∙◌, ⊎_elim, arith}
use Rattle.std.specs.List.{find}
use Rattle.std.specs.List.Sorted.{IsNonDecreasingBy}
use Rattle.std.proofs.lemmas.Bool.{cases_lt}
use Rattle.std.proofs.lemmas.Bool.Decides.{nat_tests}
use Rattle.line_table.specs.declared.paths.UnitPaths.{UnitPaths}
use Rattle.source_text.proofs.Found.{first_found, none_found}
use denote.Ref.{Bor}

abbrev units_in : List (Bor UnitPaths) → List UnitPaths
units_in units = map (λ u. u.now) units

below : (at n : ℕ) → ltb n at ≡ true → eqb at n ≡ false
below at n e = grind (arith, nat_tests)

above : (at n : ℕ) → at < n → eqb at n ≡ false
above at n l = grind (arith, nat_tests)

not_below : (at n : ℕ) → ltb n at ≡ false → at ≤ n
not_below at n e = grind (arith, nat_tests)

there : (at n : ℕ) → at ≡ n → eqb at n ≡ true
there at n e = grind (arith, nat_tests)

pub none_found_below : (at : ℕ) (units : List (Bor UnitPaths)) → ((k : ℕ) (d : Bor UnitPaths) → k < length units → ltb (get_or units k d).now.unit at ≡ true)
    → find (λ u. eqb at u.unit) (units_in units) ≡ None
none_found_below at [] h = refl
none_found_below at (x ∷ xs) h =
    none_found (λ u. u.now) (λ u. eqb at u.unit) (x ∷ xs) x (λ k l. below at (get_or (x ∷ xs) k x).now.unit (h k x l))

pub found_there : (at first : ℕ) (units : List (Bor UnitPaths)) (r : Bor UnitPaths) → r ≡ get_or units first r → first < length units
    → ((k : ℕ) (d : Bor UnitPaths) → k < first → ltb (get_or units k d).now.unit at ≡ true) → at ≡ r.now.unit
    → Some r.now ≡ find (λ u. eqb at u.unit) (units_in units)
found_there at first units r e l h f =
    ap (λ (z : Bor UnitPaths). Some z.now) e
    ∙ sym (first_found (λ u. u.now) (λ u. eqb at u.unit) first units r l (λ k d m. below at (get_or units k d).now.unit (h k d m))
    (there at (get_or units first r).now.unit (f ∙ ap (λ (z : Bor UnitPaths). z.now.unit) e)))

pub not_there : (at first : ℕ) (units : List (Bor UnitPaths)) (r : Bor UnitPaths) → r ≡ get_or units first r
    → IsNonDecreasingBy (λ u. u.now.unit) units
    → ((k : ℕ) (d : Bor UnitPaths) → k < first → ltb (get_or units k d).now.unit at ≡ true)
    → ((k : ℕ) (d : Bor UnitPaths) → first ≤ k → k < length units → ltb (get_or units k d).now.unit at ≡ false)
    → (r.now.unit ≡ at → ⊥) → find (λ u. eqb at u.unit) (units_in units) ≡ None
not_there at first units r e up h g f =
    none_found (λ u. u.now) (λ u. eqb at u.unit) units r
    (λ k l. ⊎_elim
    (λ (m : k < first). below at (get_or units k r).now.unit (h k r m))
    (λ (m : first ≤ k).
    let same = ap (λ (z : Bor UnitPaths). z.now.unit) e in
    let low = not_below at (get_or units first r).now.unit (g first r (omega arith) (omega arith)) in
    let rise = up first k r m l in
    above at (get_or units k r).now.unit (omega arith))
    (cases_lt k first))
