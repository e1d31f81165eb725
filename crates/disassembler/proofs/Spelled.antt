-- The text of an instruction is that of a statement with its bytes.
use Rattle.std.proofs.Common.{◌≡◌, ℕ, ◌-◌, ◌^◌, ◌<◌, ◌≤◌, nat_lt, cond, Bool, true, false, Some, List, [], ◌∷◌, ◌++◌, length, codes, refl, ap, ◌∙◌, arith}
use Rattle.std.proofs.lemmas.Bool.{and_parts}
use Rattle.std.proofs.lemmas.Bool.Decides.{nat_tests}
use Rattle.std.proofs.lemmas.List.Folds.{list_all-append}
use Rattle.std.specs.Fmt.{decimal}
use Rattle.std.specs.List.{AllByRecursion, list_all}
use Rattle.rv_word.specs.declared.instr.Instr.{Instr}
use Rattle.rv_word.specs.declared.instr.Instr.TheVariants.{Lui, Auipc, Jal, Jalr, Branch, Load, Store, OpImm, ShiftImm, Addiw, ShiftImm32, Op, Op32, Fence, Ecall, Ebreak, Lr, Sc, Amo}
use Rattle.rv_asm.specs.Bytes.{is_name_byte}
use Rattle.rv_asm.specs.Parsing.{is_parted}
use Rattle.rv_asm.specs.Statements.{Found}
use Rattle.rv_asm.specs.declared.statement.Statement.TheVariants as the
use Rattle.disassembler.specs.declared.operand.Operand.{Operand}
use Rattle.disassembler.specs.declared.operand.Operand.TheVariants.{Register, Number as Constant, Pointer, Memory, Target}
use Rattle.disassembler.specs.Operands.{usual_name, signed_text, label_of, operand_text, operands_text, operands_of, target, upper_bits}
use Rattle.disassembler.specs.Texts.{mnemonic}
use Rattle.disassembler.proofs.Decoded.{IsGood}
use Rattle.disassembler.proofs.Forms.{beside, form_of, form_is}
use Rattle.disassembler.proofs.Lines.{IsClean, is_clean, IsSpelled}
use Rattle.disassembler.proofs.Parts.{IsWord, usual_is, decimal_word, label_word, number_of}
use Rattle.disassembler.proofs.Shapes.{IsTail, operands_then, operands_are, three_read, number_pair_read, numbered_read, memory_read, pointer_pair_read, pointed_read, name_pair_read, named_read}

-- ---- no quotes or comments

name_clean : (byte : ℕ) → is_name_byte byte ≡ true → is_clean byte ≡ true
name_clean byte h = grind (arith, nat_tests)

pub word_clean : (word : List ℕ) → IsWord word → IsClean word
word_clean [] w = refl
word_clean (x ∷ xs) w =
    let parts = and_parts (is_name_byte x) (list_all is_name_byte xs) w in
    rw (name_clean x parts.0) (word_clean xs parts.1)

pub append_clean : (xs ys : List ℕ) → IsClean xs → IsClean ys → IsClean (xs ++ ys)
append_clean xs ys a b = list_all-append is_clean xs ys ∙ rw (a, b) refl

signed_clean : (n : ℕ) → n < 2 ^ 64 → IsClean (signed_text n)
unfolding signed_text
signed_clean n l = by (nat_lt n (2 ^ 63)) refl
  where
    by : (b : Bool) → nat_lt n (2 ^ 63) ≡ b → IsClean (cond b (decimal n) (codes "-" ++ decimal (2 ^ 64 - n)))
    by true is = word_clean (decimal n) (decimal_word n l)
    by false is =
        let high : 2 ^ 63 ≤ n = grind (arith, nat_tests) in
        word_clean (decimal (2 ^ 64 - n)) (decimal_word (2 ^ 64 - n) (omega arith))

pointer_clean : (r : ℕ) → r < 32 → IsClean (codes "(" ++ (usual_name r ++ codes ")"))
pointer_clean r l = append_clean (usual_name r) (codes ")") (word_clean (usual_name r) (usual_is r l).word) refl

operand_clean : (operand : Operand) → IsGood operand → IsClean (operand_text operand)
operand_clean (Register r) good = word_clean (usual_name r) (usual_is r good).word
operand_clean (Constant n) good = signed_clean n good
operand_clean (Pointer r) good = pointer_clean r good
operand_clean (Memory n r) good = append_clean (signed_text n) (codes "(" ++ (usual_name r ++ codes ")")) (signed_clean n good.0) (pointer_clean r good.1)
operand_clean (Target at) good = word_clean (label_of at) (label_word at good)

operands_clean : (before : List ℕ) (operands : List Operand) → IsClean before → AllByRecursion IsGood operands → IsClean (operands_text before operands)
operands_clean before [] b good = refl
operands_clean before (operand ∷ operands) b good =
    append_clean before (operand_text operand ++ operands_text (codes ", ") operands) b
    (append_clean (operand_text operand) (operands_text (codes ", ") operands) (operand_clean operand good.0) (operands_clean (codes ", ") operands refl good.1))

operands_parted : (operands : List Operand) (tail : List ℕ) → IsTail tail → is_parted (operands_text (codes " ") operands ++ tail) ≡ true
operands_parted [] tail t = t.parted
operands_parted (operand ∷ operands) tail t = refl

-- ---- statements

-- the statement that the instruction's text makes, and the name in it
abbrev pub found_of : ℕ → Instr → Found
found_of at (Lui rd imm) = beside (the.Numbered (Lui rd 0) (number_of (upper_bits imm)))
found_of at (Auipc rd imm) = beside (the.Numbered (Auipc rd 0) (number_of (upper_bits imm)))
found_of at (Jal rd offset) = (the.Jump (Jal rd 0), label_of (target at offset))
found_of at (Jalr rd rs1 offset) = beside (the.Numbered (Jalr rd rs1 0) (number_of offset))
found_of at (Branch op rs1 rs2 offset) = (the.Jump (Branch op rs1 rs2 0), label_of (target at offset))
found_of at (Load op rd rs1 offset) = beside (the.Numbered (Load op rd rs1 0) (number_of offset))
found_of at (Store op rs1 rs2 offset) = beside (the.Numbered (Store op rs1 rs2 0) (number_of offset))
found_of at (OpImm op rd rs1 imm) = beside (the.Numbered (OpImm op rd rs1 0) (number_of imm))
found_of at (ShiftImm op rd rs1 by) = beside (the.Numbered (ShiftImm op rd rs1 0) (number_of by))
found_of at (Addiw rd rs1 imm) = beside (the.Numbered (Addiw rd rs1 0) (number_of imm))
found_of at (ShiftImm32 op rd rs1 by) = beside (the.Numbered (ShiftImm32 op rd rs1 0) (number_of by))
found_of at (Op op rd rs1 rs2) = beside (the.Instruction (Op op rd rs1 rs2))
found_of at (Op32 op rd rs1 rs2) = beside (the.Instruction (Op32 op rd rs1 rs2))
found_of at (Fence rd rs1 high) = beside (the.Instruction (Fence 0 0 0x0ff))
found_of at Ecall = beside (the.Instruction Ecall)
found_of at Ebreak = beside (the.Instruction Ebreak)
found_of at (Lr width rd rs1 order) = beside (the.Instruction (Lr width rd rs1 0))
found_of at (Sc width rd rs1 rs2 order) = beside (the.Instruction (Sc width rd rs1 rs2 0))
found_of at (Amo op width rd rs1 rs2 order) = beside (the.Instruction (Amo op width rd rs1 rs2 0))

formed : (at : ℕ) (i : Instr) (tail : List ℕ) → AllByRecursion IsGood (operands_of at i) → IsTail tail → form_of i (operands_then (codes " ") (operands_of at i) tail) ≡ Some (found_of at i)
formed at (Lui rd imm) tail g t = rw (number_pair_read rd (upper_bits imm) tail g.0 g.1.0 t) refl
formed at (Auipc rd imm) tail g t = rw (number_pair_read rd (upper_bits imm) tail g.0 g.1.0 t) refl
formed at (Jal rd offset) tail g t = rw (name_pair_read rd (target at offset) tail g.0 g.1.0 t) refl
formed at (Jalr rd rs1 offset) tail g t = rw (memory_read rd offset rs1 tail g.0 g.1.0.0 g.1.0.1 t) refl
formed at (Branch op rs1 rs2 offset) tail g t = rw (named_read rs1 rs2 (target at offset) tail g.0 g.1.0 g.1.1.0 t) refl
formed at (Load op rd rs1 offset) tail g t = rw (memory_read rd offset rs1 tail g.0 g.1.0.0 g.1.0.1 t) refl
formed at (Store op rs1 rs2 offset) tail g t = rw (memory_read rs2 offset rs1 tail g.0 g.1.0.0 g.1.0.1 t) refl
formed at (OpImm op rd rs1 imm) tail g t = rw (numbered_read rd rs1 imm tail g.0 g.1.0 g.1.1.0 t) refl
formed at (ShiftImm op rd rs1 by) tail g t = rw (numbered_read rd rs1 by tail g.0 g.1.0 g.1.1.0 t) refl
formed at (Addiw rd rs1 imm) tail g t = rw (numbered_read rd rs1 imm tail g.0 g.1.0 g.1.1.0 t) refl
formed at (ShiftImm32 op rd rs1 by) tail g t = rw (numbered_read rd rs1 by tail g.0 g.1.0 g.1.1.0 t) refl
formed at (Op op rd rs1 rs2) tail g t = rw (three_read rd rs1 rs2 tail g.0 g.1.0 g.1.1.0 t) refl
formed at (Op32 op rd rs1 rs2) tail g t = rw (three_read rd rs1 rs2 tail g.0 g.1.0 g.1.1.0 t) refl
formed at (Fence rd rs1 high) tail g t = rw t.blank refl
formed at Ecall tail g t = rw t.blank refl
formed at Ebreak tail g t = rw t.blank refl
formed at (Lr width rd rs1 order) tail g t = rw (pointer_pair_read rd rs1 tail g.0 g.1.0 t) refl
formed at (Sc width rd rs1 rs2 order) tail g t = rw (pointed_read rd rs2 rs1 tail g.0 g.1.0 g.1.1.0 t) refl
formed at (Amo op width rd rs1 rs2 order) tail g t = rw (pointed_read rd rs2 rs1 tail g.0 g.1.0 g.1.1.0 t) refl

pub spelled : (at : ℕ) (i : Instr) → AllByRecursion IsGood (operands_of at i) → IsSpelled (mnemonic i) (operands_text (codes " ") (operands_of at i)) (found_of at i)
spelled at i good =
    let form = form_is i in
    let name = and_parts (list_all is_name_byte (mnemonic i)) (nat_lt 0 (length (mnemonic i))) form.word in
    record {
      word = name.0;
      some = some_from (length (mnemonic i)) name.1;
      clean = append_clean (mnemonic i) (operands_text (codes " ") (operands_of at i)) (word_clean (mnemonic i) name.0) (operands_clean (codes " ") (operands_of at i) refl good);
      parted = λ tail t. operands_parted (operands_of at i) tail t;
      made = λ tail t.
          form.form (operands_text (codes " ") (operands_of at i) ++ tail)
          ∙ ap (form_of i) (operands_are (codes " ") (operands_of at i) tail)
          ∙ formed at i tail good t;
    }
  where
    some_from : (n : ℕ) → nat_lt 0 n ≡ true → 0 < n
    some_from n h = grind (arith, nat_tests)
