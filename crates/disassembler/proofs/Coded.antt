-- The statement of an instruction's text has the bytes of the instruction's word.
use Rattle.std.proofs.Common.{◌≡◌, ℕ, ◌+◌, ◌-◌, ◌*◌, ◌%◌, ◌^◌, ◌<◌, ◌≤◌, ◌==◌, ◌&&◌, nat_lt, cond, Bool, true, false, Some, Result, Ok, List, refl, ap, ◌∙◌, arith}
use Rattle.std.specs.Prelude.{IfSome}
use Rattle.std.proofs.lemmas.Bool.{and_parts, eqb-true}
use Rattle.std.proofs.lemmas.Bool.Decides.{nat_tests}
use Rattle.std.specs.List.{AllByRecursion}
use Rattle.rv_word.specs.Fields.{extended}
use Rattle.rv_word.specs.Names.{target_of}
use Rattle.rv_word.specs.Words.{word_of, u_form}
use Rattle.rv_word.specs.declared.instr.Instr.{Instr}
use Rattle.rv_word.specs.declared.instr.Instr.TheVariants.{Lui, Auipc, Jal, Jalr, Branch, Load, Store, OpImm, ShiftImm, Addiw, ShiftImm32, Op, Op32, Fence, Ecall, Ebreak, Lr, Sc, Amo}
use Rattle.rv_asm.specs.Numbers.{wrapped}
use Rattle.rv_asm.specs.Registers.{named}
use Rattle.rv_asm.specs.SecondPass.{code_by, distance, jump_bytes, reaches, with_number, word_bytes}
use Rattle.rv_asm.specs.declared.fault.AsmFault.{AsmFault}
use Rattle.disassembler.specs.Laws.{placed}
use Rattle.disassembler.specs.Operands.{label_of, operands_of, target, upper_bits}
use Rattle.disassembler.specs.Texts.{is_spelled}
use Rattle.disassembler.proofs.Decoded.{IsGood, IsNarrow}
use Rattle.disassembler.proofs.Lines.{line_with}
use Rattle.disassembler.proofs.Parts.{number_of, number_wrapped}
use Rattle.disassembler.proofs.Spelled.{found_of}

-- the bytes of the instruction's word
abbrev IsCoded : List (List ℕ × ℕ) → ℕ → ℕ → Instr → Type 0
IsCoded labels number at i =
    code_by labels (placed number at (line_with (found_of at i))) (found_of at i).0 ≡ Ok (word_bytes (word_of i))

bytes_same : (v w : ℕ) → v ≡ w → (let r : Result (List ℕ) AsmFault = Ok (word_bytes v) in r) ≡ Ok (word_bytes w)
bytes_same v w e = ap (λ n. Ok (word_bytes n)) e

-- a number of an instruction
numbered : (bare i : Instr) (n : ℕ) → n < 2 ^ 64 → word_of (with_number bare n) ≡ word_of i → (let r : Result (List ℕ) AsmFault = Ok (word_bytes (word_of (with_number bare (wrapped (number_of n))))) in r) ≡ Ok (word_bytes (word_of i))
numbered bare i n l e = bytes_same _ _ (ap (λ m. word_of (with_number bare m)) (number_wrapped n l) ∙ e)

pub upper_word : (opcode rd imm : ℕ) → u_form opcode rd (extended 32 (upper_bits imm % 2 ^ 20 * 4096)) ≡ u_form opcode rd imm
upper_word opcode rd imm = omega arith

-- ---- jumps

-- the distance to the target is that of the instruction
distance_is : (at offset : ℕ) → at < 2 ^ 64 → offset < 2 ^ 64 → distance at (target at offset) ≡ offset
distance_is at offset la lo = by (nat_lt (target at offset) at) refl
  where
    by : (b : Bool) → nat_lt (target at offset) at ≡ b → cond b (2 ^ 64 - (at - target at offset)) (target at offset - at) ≡ offset
    by true is =
        let below : target at offset < at = grind (arith, nat_tests) in
        let wraps : target at offset ≡ (at + offset) % 2 ^ 64 = refl in
        omega arith
    by false is =
        let above : at ≤ target at offset = grind (arith, nat_tests) in
        let wraps : target at offset ≡ (at + offset) % 2 ^ 64 = refl in
        omega arith

jumps : (labels : List (List ℕ × ℕ)) (number at to offset : ℕ) (bare i : Instr) → named (label_of to) labels ≡ Some to → reaches bare at to ≡ true → distance at to ≡ offset → with_number bare offset ≡ i → jump_bytes number at bare (named (label_of to) labels) ≡ Ok (word_bytes (word_of i))
jumps labels number at to offset bare i known near far is =
    rw (known, near) (bytes_same _ _ (ap (λ n. word_of (with_number bare n)) far ∙ ap word_of is))

-- ---- all

pub coded : (labels : List (List ℕ × ℕ)) (number at : ℕ) (i : Instr) → at < 2 ^ 64 → AllByRecursion IsGood (operands_of at i) → IsNarrow i → is_spelled at i ≡ true → IfSome (target_of i at) (λ address. named (label_of address) labels ≡ Some address) → IsCoded labels number at i
unfolding with_number
coded labels number at (Lui rd imm) la good narrow formed known = numbered (Lui rd 0) (Lui rd imm) (upper_bits imm) good.1.0 (upper_word 0x37 rd imm)
coded labels number at (Auipc rd imm) la good narrow formed known = numbered (Auipc rd 0) (Auipc rd imm) (upper_bits imm) good.1.0 (upper_word 0x17 rd imm)
coded labels number at (Jal rd offset) la good narrow formed known =
    jumps labels number at (target at offset) offset (Jal rd 0) (Jal rd offset) known formed (distance_is at offset la narrow) refl
coded labels number at (Jalr rd rs1 offset) la good narrow formed known = numbered (Jalr rd rs1 0) (Jalr rd rs1 offset) offset good.1.0.0 refl
coded labels number at (Branch op rs1 rs2 offset) la good narrow formed known =
    jumps labels number at (target at offset) offset (Branch op rs1 rs2 0) (Branch op rs1 rs2 offset) known formed (distance_is at offset la narrow) refl
coded labels number at (Load op rd rs1 offset) la good narrow formed known = numbered (Load op rd rs1 0) (Load op rd rs1 offset) offset good.1.0.0 refl
coded labels number at (Store op rs1 rs2 offset) la good narrow formed known = numbered (Store op rs1 rs2 0) (Store op rs1 rs2 offset) offset good.1.0.0 refl
coded labels number at (OpImm op rd rs1 imm) la good narrow formed known = numbered (OpImm op rd rs1 0) (OpImm op rd rs1 imm) imm good.1.1.0 refl
coded labels number at (ShiftImm op rd rs1 by) la good narrow formed known = numbered (ShiftImm op rd rs1 0) (ShiftImm op rd rs1 by) by good.1.1.0 (omega arith)
coded labels number at (Addiw rd rs1 imm) la good narrow formed known = numbered (Addiw rd rs1 0) (Addiw rd rs1 imm) imm good.1.1.0 refl
coded labels number at (ShiftImm32 op rd rs1 by) la good narrow formed known = numbered (ShiftImm32 op rd rs1 0) (ShiftImm32 op rd rs1 by) by good.1.1.0 (omega arith)
coded labels number at (Op op rd rs1 rs2) la good narrow formed known = refl
coded labels number at (Op32 op rd rs1 rs2) la good narrow formed known = refl
coded labels number at (Fence rd rs1 high) la good narrow formed known =
    let first = and_parts (rd == 0) ((rs1 == 0) && (high == 0x0ff)) formed in
    let second = and_parts (rs1 == 0) (high == 0x0ff) first.1 in
    let a : rd ≡ 0 = eqb-true rd 0 first.0 in
    let b : rs1 ≡ 0 = eqb-true rs1 0 second.0 in
    let c : high ≡ 0x0ff = eqb-true high 0x0ff second.1 in
    bytes_same (word_of (Fence 0 0 0x0ff)) (word_of (Fence rd rs1 high)) (omega arith)
coded labels number at Ecall la good narrow formed known = refl
coded labels number at Ebreak la good narrow formed known = refl
coded labels number at (Lr width rd rs1 order) la good narrow formed known =
    let none : order ≡ 0 = eqb-true order 0 formed in
    bytes_same (word_of (Lr width rd rs1 0)) (word_of (Lr width rd rs1 order)) (omega arith)
coded labels number at (Sc width rd rs1 rs2 order) la good narrow formed known =
    let none : order ≡ 0 = eqb-true order 0 formed in
    bytes_same (word_of (Sc width rd rs1 rs2 0)) (word_of (Sc width rd rs1 rs2 order)) (omega arith)
coded labels number at (Amo op width rd rs1 rs2 order) la good narrow formed known =
    let none : order ≡ 0 = eqb-true order 0 formed in
    bytes_same (word_of (Amo op width rd rs1 rs2 0)) (word_of (Amo op width rd rs1 rs2 order)) (omega arith)
