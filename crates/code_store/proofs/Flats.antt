-- The list of the flats of a text's slots.
use Rattle.std.proofs.Common.{get_or, arith, ◌<◌, ◌∙◌, ◌≡◌, ℕ, zero, suc, ◌+◌, ◌-◌, ◌*◌, ◌/◌, List, [], ◌∷◌, ◌++◌, length, Option, Some, None, refl, ap, sym, subst}
use Rattle.std.specs.Prelude.{slice_get, slice_set, Bool, true, false, cond}
use Rattle.std.proofs.lemmas.Option.{slice_get-get_or}
use Rattle.rv_exec.specs.declared.flat.Flat.{Flat}
use Rattle.tramp_spec.specs.Codes.{is_word_of}
use Rattle.tramp_spec.specs.declared.mark.MarkedWord.{MarkedWord}
use Rattle.code_store.specs.Operations.{AreFlatsOf, IsFlatAt, IsMarkedFlat}
use Rattle.code_store.specs.Views.{at_place}

pub flats_long : (ws : List MarkedWord) (flats : List Flat) → AreFlatsOf ws flats → length flats ≡ length ws
flats_long [] [] a = refl
flats_long (w ∷ ws) (flat ∷ flats) a = ap suc (flats_long ws flats a.1)
flats_long [] (flat ∷ flats) a = absurd a
flats_long (w ∷ ws) [] a = absurd a

pub flats_more : (ws : List MarkedWord) (flats : List Flat) (w : MarkedWord) (flat : Flat) → AreFlatsOf ws flats → IsMarkedFlat w flat → AreFlatsOf (ws ++ w ∷ []) (flats ++ flat ∷ [])
flats_more [] [] w flat a is = (is, tt)
flats_more (v ∷ ws) (f ∷ flats) w flat a is = (a.0, flats_more ws flats w flat a.1 is)
flats_more [] (f ∷ flats) w flat a is = absurd a
flats_more (v ∷ ws) [] w flat a is = absurd a

pub flats_set : (ws : List MarkedWord) (flats : List Flat) (i : ℕ) (w : MarkedWord) (flat : Flat) → AreFlatsOf ws flats → IsMarkedFlat w flat → AreFlatsOf (slice_set ws i w) (slice_set flats i flat)
flats_set [] [] i w flat a is = tt
flats_set (v ∷ ws) (f ∷ flats) zero w flat a is = (is, a.1)
flats_set (v ∷ ws) (f ∷ flats) (suc i) w flat a is = (a.0, flats_set ws flats i w flat a.1 is)
flats_set [] (f ∷ flats) i w flat a is = absurd a
flats_set (v ∷ ws) [] i w flat a is = absurd a

-- place by place
flats_get : (ws : List MarkedWord) (flats : List Flat) (i : ℕ) → AreFlatsOf ws flats → IsFlatAt (slice_get ws i) (slice_get flats i)
flats_get [] [] i a = tt
flats_get (v ∷ ws) (f ∷ flats) zero a = a.0
flats_get (v ∷ ws) (f ∷ flats) (suc i) a = flats_get ws flats i a.1
flats_get [] (f ∷ flats) i a = absurd a
flats_get (v ∷ ws) [] i a = absurd a

picked : (b : Bool) (w : Option MarkedWord) (flat : Option Flat) → IsFlatAt w flat → IsFlatAt (cond b w None) (cond b flat None)
picked true w flat a = a
picked false w flat a = tt

-- address by address
pub flats_at : (at : ℕ) (ws : List MarkedWord) (flats : List Flat) (q : ℕ) → AreFlatsOf ws flats → IsFlatAt (at_place at ws q) (at_place at flats q)
flats_at at ws flats q a =
    subst (λ n. IsFlatAt (at_place at ws q) (cond (is_word_of at (4 * n) q) (slice_get flats ((q - at) / 4)) None)) (sym (flats_long ws flats a))
    (picked (is_word_of at (4 * length ws) q) (slice_get ws ((q - at) / 4)) (slice_get flats ((q - at) / 4)) (flats_get ws flats ((q - at) / 4) a))

-- the element of a place stands for its address
pub at_there : {A : Type 0} (at : ℕ) (xs : List A) (a i : ℕ) (d : A) → i < length xs → a ≡ at + 4 * i → Some (get_or xs i d) ≡ at_place at xs a
at_there at xs a i d l e =
    let here : is_word_of at (4 * length xs) a ≡ true = grind arith in
    let same : (a - at) / 4 ≡ i = omega arith in
    sym (slice_get-get_or xs i d l) ∙ (ap (slice_get xs) (sym same) ∙ ap (λ b. cond b (slice_get xs ((a - at) / 4)) None) (sym here))
