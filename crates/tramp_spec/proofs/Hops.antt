-- Jumps of the tool, and the words of a base block that save x5 and restore it.
use Rattle.std.proofs.Common.{◌≡◌, ℕ, ◌+◌, ◌%◌, ◌^◌, ◌<◌, ◌≤◌, List, length, Some, Ok, Err, refl, ap, ◌∙◌, arith, true}
use Rattle.std.specs.Prelude.{◌==◌, nat_le}
use Rattle.std.proofs.lemmas.Bool.{cond-true, eq-eqb, and_parts, leb-true}
use Rattle.std.proofs.lemmas.Grind.{common_steps}
use Rattle.rv_word.specs.Names.{jump_of}
use Rattle.rv_word.specs.Registers.{reg}
use Rattle.rv_word.specs.Table.{decode_of}
use Rattle.rv_word.specs.Words.{word_of, IsJump}
use Rattle.rv_word.specs.Exec.{action, next}
use Rattle.rv_word.specs.declared.outcome.Cause.TheVariants.{Misaligned}
use Rattle.rv_word.specs.declared.instr.Instr.TheVariants.{Jal, Load, Store}
use Rattle.rv_word.specs.declared.instr.LoadOp.TheVariants.{Ld}
use Rattle.rv_word.specs.declared.instr.StoreOp.TheVariants.{Sd}
use Rattle.tramp_spec.specs.Banks.{bank_len, set_bank, is_in_bank, saved_x5}
use Rattle.tramp_spec.specs.Jumps.{distance, reaches, jump_word}
use Rattle.tramp_spec.specs.Steps.{Bench, stand, leads_to, perform_on, step_on, step_decoded, with_value, with_doubleword}
use Rattle.tramp_spec.proofs.Encodings.{jal_reads}
use Rattle.tramp_spec.proofs.Registers.{with_zero}

-- the word at `from` is a jump that keeps no address and leads to `to`
pub record Hops (from to word : ℕ) : Type 0 where
  pub offset : ℕ
  pub is : decode_of word ≡ Some (Jal 0 offset)
  pub leads : (from + offset) % 2 ^ 64 ≡ to

pub target_is : (from to word : ℕ) → Hops from to word → jump_of (decode_of word) from ≡ Some to
target_is from to word h = ap (λ o. jump_of o from) h.is ∙ ap (λ n. Some n) h.leads

hop_decoded : (n offset ticks pc to : ℕ) (x : Bench) → (pc + offset) % 2 ^ 64 ≡ to → to % 4 ≡ 0 → step_decoded n (Some (Jal 0 offset)) ticks pc x ≡ Ok (stand to x)
unfolding action perform_on
hop_decoded n offset ticks pc to x e a =
    ap (λ t. leads_to t (with_value x 0 (next pc))) e
    ∙ cond-true (to % 4 == 0) (Ok (stand to (with_value x 0 (next pc)))) (Err Misaligned) (eq-eqb (to % 4) 0 a)
    ∙ ap (λ (r : List ℕ). Ok (stand to (record { regs = r; bank = x.bank }))) (with_zero x.regs (next pc))

-- such a jump changes nothing but the pc
pub hop_steps : (n word ticks pc to : ℕ) (x : Bench) → Hops pc to word → to % 4 ≡ 0 → step_on n word ticks pc x ≡ Ok (stand to x)
hop_steps n word ticks pc to x h a = ap (λ o. step_decoded n o ticks pc x) h.is ∙ hop_decoded n h.offset ticks pc to x h.leads a

distance_fits : (from to : ℕ) → from ≤ to + 1048576 → to ≤ from + 1048574 → from % 4 ≡ 0 → to % 4 ≡ 0 → from < 2 ^ 32 → to < 2 ^ 32 → IsJump 21 (distance from to)
distance_fits from to lo hi a b f t = (omega arith, omega arith)

-- the word that is made for a jump is one
pub jump_hops : (from to : ℕ) → from ≤ to + 1048576 → to ≤ from + 1048574 → from % 4 ≡ 0 → to % 4 ≡ 0 → from < 2 ^ 32 → to < 2 ^ 32 → Hops from to (jump_word from to)
jump_hops from to lo hi a b f t = record { offset = distance from to; is = jal_reads (distance from to) (distance_fits from to lo hi a b f t); leads = omega arith }

pub reached : (from to : ℕ) → reaches from to ≡ true → (from ≤ to + 1048576) × (to ≤ from + 1048574)
reached from to e = let p = and_parts (nat_le from (to + 1048576)) (nat_le to (from + 1048574)) e in (leb-true from (to + 1048576) p.0, leb-true to (from + 1048574) p.1)

-- the words that save x5 and restore it
one_in_bank : is_in_bank bank_len 8 ≡ true
unfolding bank_len
one_in_bank = refl

save_decoded : (ticks pc : ℕ) (x : Bench) → step_decoded bank_len (Some (Store Sd 0 5 8)) ticks pc x ≡ Ok (stand (next pc) (with_doubleword x 1 (reg x.regs 5)))
unfolding action perform_on reg
save_decoded ticks pc x = cond-true (is_in_bank bank_len 8) (Ok (stand (next pc) (with_doubleword x 1 (reg x.regs 5)))) _ one_in_bank

pub save_steps : (ticks pc : ℕ) (x : Bench) → step_on bank_len (word_of (Store Sd 0 5 8)) ticks pc x ≡ Ok (stand (next pc) (with_doubleword x 1 (reg x.regs 5)))
unfolding decode_of
save_steps ticks pc x = save_decoded ticks pc x

restore_decoded : (ticks pc : ℕ) (x : Bench) → step_decoded bank_len (Some (Load Ld 5 0 8)) ticks pc x ≡ Ok (stand (next pc) (with_value x 5 (saved_x5 x.bank)))
unfolding action perform_on reg
restore_decoded ticks pc x = cond-true (is_in_bank bank_len 8) (Ok (stand (next pc) (with_value x 5 (saved_x5 x.bank)))) _ one_in_bank

pub restore_steps : (ticks pc : ℕ) (x : Bench) → step_on bank_len (word_of (Load Ld 5 0 8)) ticks pc x ≡ Ok (stand (next pc) (with_value x 5 (saved_x5 x.bank)))
unfolding decode_of
restore_steps ticks pc x = restore_decoded ticks pc x

-- the saved x5 is read back
pub saved_back : (bank : List ℕ) (v : ℕ) → length bank ≡ bank_len → saved_x5 (set_bank bank 1 v) ≡ v
unfolding bank_len
saved_back bank v e = grind (arith, common_steps)

pub length_set_bank : (bank : List ℕ) (n v : ℕ) → length (set_bank bank n v) ≡ length bank
length_set_bank bank n v = grind (arith, common_steps)
