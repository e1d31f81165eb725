-- What is found in a list.
use Rattle.std.proofs.Common.{◌≡◌, ◌⊎◌, ℕ, zero, suc, ◌-◌, ◌/◌, ◌%◌, ◌≤◌, List, [], ◌∷◌, length, Bool, true, false, cond, leb, Option, Some, inl, inr, refl, ap, sym, subst, ◌∙◌, ⊎_elim, arith}
use Rattle.std.specs.Prelude.{is_none, slice_get}
use Rattle.std.specs.List.{find, All}
use Rattle.std.proofs.lemmas.Bool.Decides.{nat_tests}
use Rattle.std.proofs.lemmas.List.Elements.{All-tail}
use Rattle.pn_types.specs.declared.code.Proc.{Proc}
use Rattle.rv_word.specs.Plain.{Words, program_word}

pick : (b : Bool) (q p : Proc) (rest : Option Proc) → cond b (Some q) rest ≡ Some p → ((b ≡ true) × (q ≡ p)) ⊎ (rest ≡ Some p)
pick true q p rest e = inl (refl, cc)
pick false q p rest e = inr e

pub found_passes : (t : Proc → Bool) (ps : List Proc) (p : Proc) → find t ps ≡ Some p → t p ≡ true
found_passes t [] p e = absurd cc
found_passes t (q ∷ ps) p e = ⊎_elim (λ h. ap t (sym h.1) ∙ h.0) (λ h. found_passes t ps p h) (pick (t q) q p (find t ps) e)

pub found_all : (P : Proc → Type 0) (t : Proc → Bool) (ps : List Proc) (p : Proc) → All P ps → find t ps ≡ Some p → P p
found_all P t [] p h e = absurd cc
found_all P t (q ∷ ps) p h e =
    ⊎_elim (λ k. subst P k.1 (h 0 q (omega arith))) (λ k. found_all P t ps p (All-tail P q ps h) k) (pick (t q) q p (find t ps) e)

none_past : (ws : List ℕ) (k : ℕ) → is_none (slice_get ws k) ≡ leb (length ws) k
none_past [] k = grind (arith, nat_tests)
none_past (w ∷ ws) zero = grind (arith, nat_tests)
none_past (w ∷ ws) (suc k) = let h = none_past ws k in grind (arith, nat_tests)

aligned : (t : Words) (pc : ℕ) → t.at ≤ pc → (pc - t.at) % 4 ≡ 0 → program_word t pc ≡ slice_get t.words ((pc - t.at) / 4)
aligned t pc l e = grind (arith, nat_tests)

-- whether a text has no word there
pub outside_is : (t : Words) (pc n : ℕ) → n ≡ length t.words → t.at ≤ pc → (pc - t.at) % 4 ≡ 0 → leb n ((pc - t.at) / 4) ≡ is_none (program_word t pc)
outside_is t pc n m l e = ap (λ z. leb z ((pc - t.at) / 4)) m ∙ sym (none_past t.words ((pc - t.at) / 4)) ∙ ap is_none (sym (aligned t pc l e))
