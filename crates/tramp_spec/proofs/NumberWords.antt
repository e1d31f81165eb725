-- Numbers in two words, and the steps of these.
use Rattle.std.proofs.Common.{◌≡◌, ℕ, ◌+◌, ◌%◌, ◌^◌, ◌<◌, length, Some, Ok, refl, ap, ◌∙◌, arith}
use Rattle.std.specs.Prelude.{◌==◌, false}
use Rattle.std.proofs.lemmas.Grind.{common_steps}
use Rattle.rv_word.specs.Fields.{extended}
use Rattle.rv_word.specs.Registers.{reg, with_reg}
use Rattle.rv_word.specs.Words.{word_of, IsExtended}
use Rattle.rv_word.specs.Values.{wrap, low_word}
use Rattle.rv_word.specs.Exec.{action, next}
use Rattle.rv_word.specs.declared.instr.ImmOp.TheVariants.{Addi}
use Rattle.rv_word.specs.declared.instr.Instr.TheVariants.{Lui, OpImm, Addiw}
use Rattle.tramp_spec.specs.Banks.{bank_len}
use Rattle.tramp_spec.specs.Jumps.{upper, lower}
use Rattle.tramp_spec.specs.Steps.{Bench, stand, step_on, step_decoded, perform_on, with_value}
use Rattle.tramp_spec.proofs.Encodings.{lui_reads, addiw_reads, addi_reads}
use Rattle.tramp_spec.proofs.Registers.{read_back}

pub upper_fits : (n : ℕ) → IsExtended 32 (upper n)
upper_fits n = grind (arith, common_steps)

pub upper_even : (n : ℕ) → upper n % 4096 ≡ 0
upper_even n = grind (arith, common_steps)

pub lower_fits : (n : ℕ) → IsExtended 12 (lower n)
lower_fits n = grind (arith, common_steps)

pub parts : (n : ℕ) → extended 32 (n % 2 ^ 32) ≡ n → low_word (upper n + lower n) ≡ n
parts n e = grind (arith, common_steps)

-- ---- steps of the words that put a number into a register

pub lui_decoded : (r v ticks at : ℕ) (x : Bench) → step_decoded bank_len (Some (Lui r v)) ticks at x ≡ Ok (stand (next at) (with_value x r v))
unfolding action perform_on
lui_decoded r v ticks at x = refl

pub lui_steps : (r n ticks at : ℕ) (x : Bench) → r < 32 → step_on bank_len (word_of (Lui r (upper n))) ticks at x ≡ Ok (stand (next at) (with_value x r (upper n)))
lui_steps r n ticks at x l =
    ap (λ o. step_decoded bank_len o ticks at x) (lui_reads r (upper n) l (upper_fits n) (upper_even n)) ∙ lui_decoded r (upper n) ticks at x

pub addiw_decoded : (r v ticks at : ℕ) (x : Bench) → step_decoded bank_len (Some (Addiw r r v)) ticks at x ≡ Ok (stand (next at) (with_value x r (low_word (reg x.regs r + v))))
unfolding action perform_on
addiw_decoded r v ticks at x = refl

-- after the lui
pub addiw_steps : (r n ticks at : ℕ) (x : Bench) → r < 32 → (r == 0) ≡ false → length x.regs ≡ 32 → extended 32 (n % 2 ^ 32) ≡ n
    → step_on bank_len (word_of (Addiw r r (lower n))) ticks at (with_value x r (upper n)) ≡ Ok (stand (next at) (with_value (with_value x r (upper n)) r n))
addiw_steps r n ticks at x l z size e =
    let back : reg (with_reg x.regs r (upper n)) r ≡ upper n = read_back x.regs r (upper n) z (grind (arith, common_steps)) in
    ap (λ o. step_decoded bank_len o ticks at (with_value x r (upper n))) (addiw_reads r r (lower n) l l (lower_fits n))
    ∙ (addiw_decoded r (lower n) ticks at (with_value x r (upper n))
    ∙ ap (λ v. Ok (stand (next at) (with_value (with_value x r (upper n)) r v))) (ap (λ a. low_word (a + lower n)) back ∙ parts n e))

pub addi_decoded : (r q v ticks at : ℕ) (x : Bench) → step_decoded bank_len (Some (OpImm Addi r q v)) ticks at x ≡ Ok (stand (next at) (with_value x r (wrap (reg x.regs q + v))))
unfolding action perform_on
addi_decoded r q v ticks at x = refl

pub addi_steps : (r q v ticks at : ℕ) (x : Bench) → r < 32 → q < 32 → IsExtended 12 v → step_on bank_len (word_of (OpImm Addi r q v)) ticks at x ≡ Ok (stand (next at) (with_value x r (wrap (reg x.regs q + v))))
addi_steps r q v ticks at x l m e = ap (λ o. step_decoded bank_len o ticks at x) (addi_reads r q v l m e) ∙ addi_decoded r q v ticks at x
