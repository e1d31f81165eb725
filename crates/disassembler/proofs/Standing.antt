-- The statement of a word's text may stand in the text, where the word doesn't name x31.
use Rattle.std.proofs.Common.{◌≡◌, ℕ, ◌-◌, ◌%◌, ◌^◌, ◌<◌, ◌≤◌, ◌==◌, ◌&&◌, nat_lt, cond, Bool, true, false, refl, ap, sym, ◌∙◌, arith}
use Rattle.std.proofs.lemmas.Bool.{and_parts, eqb-true}
use Rattle.std.proofs.lemmas.Bool.Decides.{nat_tests}
use Rattle.rv_word.specs.Names.{has_scratch}
use Rattle.rv_word.specs.Words.{word_of}
use Rattle.rv_word.specs.declared.instr.Instr.{Instr}
use Rattle.rv_word.specs.declared.instr.Instr.TheVariants.{Lui, Auipc, Jal, Jalr, Branch, Load, Store, OpImm, ShiftImm, Addiw, ShiftImm32, Op, Op32, Fence, Ecall, Ebreak, Lr, Sc, Amo}
use Rattle.rv_asm.proofs.Scratch.{same_scratch}
use Rattle.rv_asm.specs.Checks.{has_x31, may_stand, numbers_fit}
use Rattle.rv_asm.specs.FirstPass.{blank_draft}
use Rattle.rv_asm.specs.Numbers.{within}
use Rattle.rv_asm.specs.SecondPass.{with_number}
use Rattle.disassembler.specs.Operands.{upper_bits}
use Rattle.disassembler.specs.Texts.{is_spelled}
use Rattle.disassembler.proofs.Coded.{upper_word}
use Rattle.disassembler.proofs.Decoded.{IsNarrow, IsShort}
use Rattle.disassembler.proofs.Parts.{number_of}
use Rattle.disassembler.proofs.Spelled.{found_of}

-- ---- numbers

short_fits : (n : ℕ) → IsShort n → within 2048 2047 (number_of n) ≡ true
unfolding within
short_fits n short = by (nat_lt n (2 ^ 63)) refl
  where
    by : (b : Bool) → nat_lt n (2 ^ 63) ≡ b → within 2048 2047 (cond b (record { negative = false; size = n }) (record { negative = true; size = 2 ^ 64 - n })) ≡ true
    by true is = grind (arith, nat_tests)
    by false is = grind (arith, nat_tests)

small_fits : (most n : ℕ) → n ≤ most → most < 2 ^ 63 → within 0 most (number_of n) ≡ true
unfolding within
small_fits most n l small = by (nat_lt n (2 ^ 63)) refl
  where
    by : (b : Bool) → nat_lt n (2 ^ 63) ≡ b → within 0 most (cond b (record { negative = false; size = n }) (record { negative = true; size = 2 ^ 64 - n })) ≡ true
    by true is = grind (arith, nat_tests)
    by false is = grind (arith, nat_tests)

upper_fits : (imm : ℕ) → within 0 0xfffff (number_of (upper_bits imm)) ≡ true
upper_fits imm = small_fits 0xfffff (upper_bits imm) (omega arith) (omega arith)

pub numbers_are : (at : ℕ) (i : Instr) → IsNarrow i → numbers_fit (found_of at i).0 ≡ true
unfolding numbers_fit
numbers_are at (Lui rd imm) narrow = upper_fits imm
numbers_are at (Auipc rd imm) narrow = upper_fits imm
numbers_are at (Jal rd offset) narrow = refl
numbers_are at (Jalr rd rs1 offset) narrow = short_fits offset narrow
numbers_are at (Branch op rs1 rs2 offset) narrow = refl
numbers_are at (Load op rd rs1 offset) narrow = short_fits offset narrow
numbers_are at (Store op rs1 rs2 offset) narrow = short_fits offset narrow
numbers_are at (OpImm op rd rs1 imm) narrow = short_fits imm narrow
numbers_are at (ShiftImm op rd rs1 by) narrow = small_fits 63 by (omega arith) (omega arith)
numbers_are at (Addiw rd rs1 imm) narrow = short_fits imm narrow
numbers_are at (ShiftImm32 op rd rs1 by) narrow = small_fits 31 by (omega arith) (omega arith)
numbers_are at (Op op rd rs1 rs2) narrow = refl
numbers_are at (Op32 op rd rs1 rs2) narrow = refl
numbers_are at (Fence rd rs1 high) narrow = refl
numbers_are at Ecall narrow = refl
numbers_are at Ebreak narrow = refl
numbers_are at (Lr width rd rs1 order) narrow = refl
numbers_are at (Sc width rd rs1 rs2 order) narrow = refl
numbers_are at (Amo op width rd rs1 rs2 order) narrow = refl

-- ---- places

pub stands : (at : ℕ) (i : Instr) (inside : Bool) → may_stand blank_draft.section inside (found_of at i).0 ≡ true
unfolding may_stand
stands at (Lui rd imm) inside = refl
stands at (Auipc rd imm) inside = refl
stands at (Jal rd offset) inside = refl
stands at (Jalr rd rs1 offset) inside = refl
stands at (Branch op rs1 rs2 offset) inside = refl
stands at (Load op rd rs1 offset) inside = refl
stands at (Store op rs1 rs2 offset) inside = refl
stands at (OpImm op rd rs1 imm) inside = refl
stands at (ShiftImm op rd rs1 by) inside = refl
stands at (Addiw rd rs1 imm) inside = refl
stands at (ShiftImm32 op rd rs1 by) inside = refl
stands at (Op op rd rs1 rs2) inside = refl
stands at (Op32 op rd rs1 rs2) inside = refl
stands at (Fence rd rs1 high) inside = refl
stands at Ecall inside = refl
stands at Ebreak inside = refl
stands at (Lr width rd rs1 order) inside = refl
stands at (Sc width rd rs1 rs2 order) inside = refl
stands at (Amo op width rd rs1 rs2 order) inside = refl

-- ---- x31

same_named : (v w : ℕ) → v ≡ w → has_scratch v ≡ has_scratch w
same_named v w e = ap has_scratch e

-- what the statement names is what the instruction's word does
pub scratch_is : (at : ℕ) (i : Instr) → is_spelled at i ≡ true → has_x31 blank_draft.section (found_of at i).0 ≡ has_scratch (word_of i)
unfolding has_x31 with_number
scratch_is at (Lui rd imm) formed = sym (same_scratch (Lui rd 0) (upper_bits imm)) ∙ same_named _ _ (upper_word 0x37 rd imm)
scratch_is at (Auipc rd imm) formed = sym (same_scratch (Auipc rd 0) (upper_bits imm)) ∙ same_named _ _ (upper_word 0x17 rd imm)
scratch_is at (Jal rd offset) formed = sym (same_scratch (Jal rd 0) offset)
scratch_is at (Jalr rd rs1 offset) formed = sym (same_scratch (Jalr rd rs1 0) offset)
scratch_is at (Branch op rs1 rs2 offset) formed = sym (same_scratch (Branch op rs1 rs2 0) offset)
scratch_is at (Load op rd rs1 offset) formed = sym (same_scratch (Load op rd rs1 0) offset)
scratch_is at (Store op rs1 rs2 offset) formed = sym (same_scratch (Store op rs1 rs2 0) offset)
scratch_is at (OpImm op rd rs1 imm) formed = sym (same_scratch (OpImm op rd rs1 0) imm)
scratch_is at (ShiftImm op rd rs1 by) formed = sym (same_scratch (ShiftImm op rd rs1 0) by) ∙ same_named (word_of (ShiftImm op rd rs1 (by % 64))) (word_of (ShiftImm op rd rs1 by)) (omega arith)
scratch_is at (Addiw rd rs1 imm) formed = sym (same_scratch (Addiw rd rs1 0) imm)
scratch_is at (ShiftImm32 op rd rs1 by) formed = sym (same_scratch (ShiftImm32 op rd rs1 0) by) ∙ same_named (word_of (ShiftImm32 op rd rs1 (by % 32))) (word_of (ShiftImm32 op rd rs1 by)) (omega arith)
scratch_is at (Op op rd rs1 rs2) formed = refl
scratch_is at (Op32 op rd rs1 rs2) formed = refl
scratch_is at (Fence rd rs1 high) formed =
    let first = and_parts (rd == 0) ((rs1 == 0) && (high == 0x0ff)) formed in
    let second = and_parts (rs1 == 0) (high == 0x0ff) first.1 in
    let a : rd ≡ 0 = eqb-true rd 0 first.0 in
    let b : rs1 ≡ 0 = eqb-true rs1 0 second.0 in
    let c : high ≡ 0x0ff = eqb-true high 0x0ff second.1 in
    same_named (word_of (Fence 0 0 0x0ff)) (word_of (Fence rd rs1 high)) (omega arith)
scratch_is at Ecall formed = refl
scratch_is at Ebreak formed = refl
scratch_is at (Lr width rd rs1 order) formed =
    let none : order ≡ 0 = eqb-true order 0 formed in
    same_named (word_of (Lr width rd rs1 0)) (word_of (Lr width rd rs1 order)) (omega arith)
scratch_is at (Sc width rd rs1 rs2 order) formed =
    let none : order ≡ 0 = eqb-true order 0 formed in
    same_named (word_of (Sc width rd rs1 rs2 0)) (word_of (Sc width rd rs1 rs2 order)) (omega arith)
scratch_is at (Amo op width rd rs1 rs2 order) formed =
    let none : order ≡ 0 = eqb-true order 0 formed in
    same_named (word_of (Amo op width rd rs1 rs2 0)) (word_of (Amo op width rd rs1 rs2 order)) (omega arith)
