-- Registers that are read after a write. Premises compute at numerals, so that `simp registers` needs no more than the length.
use Rattle.std.proofs.Common.{◌≡◌, ◌≢◌, ℕ, ◌<◌, List, length, get_or, set, refl, ap, sym, arith, ◌∙◌, ⊎_elim}
use Rattle.std.specs.Prelude.{◌==◌, nat_lt, true, false}
use Rattle.std.proofs.lemmas.Bool.{cond-false, ltb-true, ne_eqb, cases_lt}
use Rattle.std.proofs.lemmas.Grind.{common_steps}
use Rattle.std.proofs.lemmas.List.{get_or-set_same}
use Rattle.rv_word.specs.Registers.{reg, with_reg}
use Rattle.tramp_spec.specs.Moves.{Agree}

pub length_with : (regs : List ℕ) (r v : ℕ) → length (with_reg regs r v) ≡ length regs
unfolding with_reg
length_with regs r v = grind (arith, common_steps)

pub read_back : (regs : List ℕ) (r v : ℕ) → (r == 0) ≡ false → nat_lt r (length regs) ≡ true → reg (with_reg regs r v) r ≡ v
unfolding reg with_reg
read_back regs r v z h =
    cond-false (r == 0) _ _ z
    ∙ ap (λ xs. get_or xs r 0) (cond-false (r == 0) regs (set regs r v) z)
    ∙ get_or-set_same regs r v 0 (ltb-true r (length regs) h)

pub read_other : (regs : List ℕ) (r q v : ℕ) → (q == r) ≡ false → reg (with_reg regs r v) q ≡ reg regs q
unfolding reg with_reg
read_other regs r q v n = grind (arith, common_steps)

pub read_but : (regs : List ℕ) (r q v : ℕ) → q ≢ r → reg (with_reg regs r v) q ≡ reg regs q
read_but regs r q v n = read_other regs r q v (ne_eqb q r n)

pub ruleset registers = (length_with, read_back, read_other)

pub zero_reg : (regs : List ℕ) → reg regs 0 ≡ 0
unfolding reg
zero_reg regs = refl

-- nothing is written into x0
pub with_zero : (regs : List ℕ) (v : ℕ) → with_reg regs 0 v ≡ regs
unfolding with_reg
with_zero regs v = refl

-- registers that agree below 31 do so after a write
pub agree_with : (a b : List ℕ) (r v : ℕ) → length a ≡ length b → Agree a b → Agree (with_reg a r v) (with_reg b r v)
unfolding reg with_reg
agree_with a b r v e h q l = let p = h q l in grind (arith, common_steps)

-- what stands in x31 has no part in it
pub agree_31 : (a b : List ℕ) (v : ℕ) → Agree a b → Agree (with_reg a 31 v) b
agree_31 a b v h q l = read_but a 31 q v (λ e. omega arith) ∙ h q l

past : (regs : List ℕ) (r : ℕ) → length regs ≡ 32 → 31 < r → reg regs r ≡ 0
unfolding reg
past regs r e l = grind (arith, common_steps)

-- all but x31 agree
pub agree_but : (a b : List ℕ) (r : ℕ) → length a ≡ 32 → length b ≡ 32 → Agree a b → r ≢ 31 → reg a r ≡ reg b r
agree_but a b r la lb h n = ⊎_elim (λ l. h r l) (λ l. past a r la (omega arith) ∙ sym (past b r lb (omega arith))) (cases_lt r 31)
