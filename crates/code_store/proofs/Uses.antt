-- What the words of the tool text are for, one by one and in their array.
use Rattle.std.proofs.Common.{◌≡◌, ℕ, zero, suc, ◌+◌, ◌*◌, List, [], ◌∷◌, length, get_or, Some, None, refl, sym, ap, ◌∙◌, arith}
use Rattle.std.specs.Prelude.{nat_eq, slice_set, unwrap_or}
use Rattle.std.proofs.lemmas.Bool.{cond-true, cond-false, eq-eqb, ne_eqb}
use Rattle.tramp_spec.specs.Marks.{tool}
use Rattle.tramp_spec.specs.declared.mark.MarkedWord.{MarkedWord}
use Rattle.code_store.specs.declared.word_use.WordUse.{WordUse}
use Rattle.code_store.specs.declared.word_use.WordUse.TheVariants.{Unwritten, Free, Block}
use Rattle.code_store.specs.Views.{point_of, freed, put_to, if_put, put_among, AreBlank}
use Rattle.code_store.proofs.Entries.{read}

-- ---- one word

pub point_of-freed : (u : WordUse) → point_of (freed u) ≡ None
point_of-freed Unwritten = refl
point_of-freed Free = refl
point_of-freed (Block point) = refl

pub point_of-put_to : (u : WordUse) → point_of (put_to u) ≡ point_of u
point_of-put_to Unwritten = refl
point_of-put_to Free = refl
point_of-put_to (Block point) = refl

pub if_put-put_to : (u : WordUse) (w : MarkedWord) → if_put (put_to u) w ≡ Some w
if_put-put_to Unwritten w = refl
if_put-put_to Free w = refl
if_put-put_to (Block point) w = refl

pub put_to-written : (u : WordUse) → put_to u ≡ Unwritten → ⊥
put_to-written Unwritten e = cc
put_to-written Free e = cc
put_to-written (Block point) e = cc

-- ---- arrays

pub put_among-set : (ws : List MarkedWord) (us : List WordUse) (i : ℕ) (w : MarkedWord) (u : WordUse) → put_among (slice_set ws i w) (slice_set us i u) ≡ slice_set (put_among ws us) i (if_put u w)
put_among-set [] us i w u = refl
put_among-set (x ∷ ws) [] zero w u = refl
put_among-set (x ∷ ws) [] (suc i) w u = refl
put_among-set (x ∷ ws) (y ∷ us) zero w u = refl
put_among-set (x ∷ ws) (y ∷ us) (suc i) w u = ap (λ xs. if_put y x ∷ xs) (put_among-set ws us i w u)

pub length-put_among : (ws : List MarkedWord) (us : List WordUse) → length us ≡ length ws → length (put_among ws us) ≡ length ws
length-put_among [] us e = refl
length-put_among (w ∷ ws) [] e = absurd (omega arith)
length-put_among (w ∷ ws) (u ∷ us) e = ap suc (length-put_among ws us (omega arith))

if_put-freed : (u : WordUse) (w : MarkedWord) → if_put (freed u) w ≡ if_put u w
if_put-freed Unwritten w = refl
if_put-freed Free w = refl
if_put-freed (Block point) w = refl

pub put_among-freed : (ws : List MarkedWord) (us : List WordUse) (i : ℕ) (u : WordUse) → u ≡ get_or us i u → put_among ws (slice_set us i (freed u)) ≡ put_among ws us
put_among-freed [] us i u is = refl
put_among-freed (w ∷ ws) [] zero u is = refl
put_among-freed (w ∷ ws) [] (suc i) u is = refl
put_among-freed (w ∷ ws) (v ∷ us) zero u is = ap (λ o. o ∷ put_among ws us) (if_put-freed u w ∙ ap (λ x. if_put x w) is)
put_among-freed (w ∷ ws) (v ∷ us) (suc i) u is = ap (λ xs. if_put v w ∷ xs) (put_among-freed ws us i u is)

blank_one : (u : WordUse) (w : MarkedWord) → (u ≡ Unwritten → w ≡ tool 0) → w ≡ unwrap_or (if_put u w) (tool 0)
blank_one Unwritten w h = h refl
blank_one Free w h = refl
blank_one (Block point) w h = refl

-- what stands in the array is what is fetched, and behind it the word that is fetched where nothing was put
pub blank_at : (ws : List MarkedWord) (us : List WordUse) (at i q : ℕ) → AreBlank ws us → length us ≡ length ws → q ≡ at + 4 * i → get_or ws i (tool 0) ≡ unwrap_or (read at (put_among ws us) q) (tool 0)
blank_at [] us at i q b n e = refl
blank_at (w ∷ ws) [] at i q b n e = absurd (omega arith)
blank_at (w ∷ ws) (u ∷ us) at zero q b n e = blank_one u w b.0 ∙ ap (λ o. unwrap_or o (tool 0)) (sym (cond-true (nat_eq q at) _ _ (eq-eqb q at (omega arith))))
blank_at (w ∷ ws) (u ∷ us) at (suc i) q b n e =
    blank_at ws us (at + 4) i q b.1 (omega arith) (omega arith) ∙ ap (λ o. unwrap_or o (tool 0)) (sym (cond-false (nat_eq q at) _ _ (ne_eqb q at (λ z. omega arith))))

pub blank-put : (ws : List MarkedWord) (us : List WordUse) (i : ℕ) (w : MarkedWord) (u : WordUse) → (u ≡ Unwritten → w ≡ tool 0) → AreBlank ws us → AreBlank (slice_set ws i w) (slice_set us i u)
blank-put [] us i w u h b = tt
blank-put (x ∷ ws) [] zero w u h b = tt
blank-put (x ∷ ws) [] (suc i) w u h b = tt
blank-put (x ∷ ws) (y ∷ us) zero w u h b = (h, b.1)
blank-put (x ∷ ws) (y ∷ us) (suc i) w u h b = (b.0, blank-put ws us i w u h b.1)

freed-unwritten : (u : WordUse) → freed u ≡ Unwritten → u ≡ Unwritten
freed-unwritten Unwritten e = refl
freed-unwritten Free e = cc
freed-unwritten (Block point) e = absurd cc

pub blank-freed : (ws : List MarkedWord) (us : List WordUse) (i : ℕ) (u : WordUse) → u ≡ get_or us i u → AreBlank ws us → AreBlank ws (slice_set us i (freed u))
blank-freed [] us i u is b = tt
blank-freed (w ∷ ws) [] zero u is b = tt
blank-freed (w ∷ ws) [] (suc i) u is b = tt
blank-freed (w ∷ ws) (v ∷ us) zero u is b = ((λ e. b.0 (sym is ∙ freed-unwritten u e)), b.1)
blank-freed (w ∷ ws) (v ∷ us) (suc i) u is b = (b.0, blank-freed ws us i u is b.1)
