-- The operands of an instruction, and the text of each.
use Rattle.std.specs.Prelude.{ℕ, ◌+◌, ◌-◌, ◌/◌, ◌%◌, ◌^◌, ◌==◌, nat_lt, if◌then◌else◌, List, [], ◌∷◌, ◌++◌, codes, false}
use Rattle.std.specs.Fmt.{decimal, digits}
use Rattle.rv_word.specs.declared.instr.Instr.{Instr}
use Rattle.rv_word.specs.declared.instr.Instr.TheVariants.{Lui, Auipc, Jal, Jalr, Branch, Load, Store, OpImm, ShiftImm, Addiw, ShiftImm32, Op, Op32, Fence, Ecall, Ebreak, Lr, Sc, Amo}
use Rattle.rv_asm.specs.Registers.{usual_names}
use Rattle.disassembler.specs.declared.operand.Operand.{Operand}
use Rattle.disassembler.specs.declared.operand.Operand.TheVariants.{Register, Number, Pointer, Memory, Target}

-- the name of the first row whose value has the code of this one
abbrev pub name_by : {A : Type 0} → (A → ℕ) → A → List (List ℕ × A) → List ℕ
name_by code value [] = []
name_by code value (row ∷ rows) = if code row.1 == code value then row.0 else name_by code value rows

-- the usual name of a register
unfoldable pub usual_name : ℕ → List ℕ
usual_name r = name_by (λ n. n) r usual_names

-- a number of 64 bits with its sign
unfoldable pub signed_text : ℕ → List ℕ
signed_text n = if nat_lt n (2 ^ 63) then decimal n else codes "-" ++ decimal (2 ^ 64 - n)

-- the name of an address: `L` and its hexadecimal digits
unfoldable pub label_of : ℕ → List ℕ
label_of at = codes "L" ++ digits 16 false at

abbrev pub operand_text : Operand → List ℕ
operand_text (Register r) = usual_name r
operand_text (Number n) = signed_text n
operand_text (Pointer r) = codes "(" ++ (usual_name r ++ codes ")")
operand_text (Memory n r) = signed_text n ++ (codes "(" ++ (usual_name r ++ codes ")"))
operand_text (Target at) = label_of at

-- operands, with this before the first, and a comma and a space before each other
abbrev pub operands_text : List ℕ → List Operand → List ℕ
operands_text before [] = []
operands_text before (operand ∷ operands) = before ++ (operand_text operand ++ operands_text (codes ", ") operands)

-- where the jump or branch at an address leads
abbrev pub target : ℕ → ℕ → ℕ
target at offset = (at + offset) % 2 ^ 64

-- the number that a `lui` or an `auipc` has in its upper 20 bits
abbrev pub upper_bits : ℕ → ℕ
upper_bits imm = imm / 4096 % 2 ^ 20

-- the operands of the instruction at an address, in the order of the assembler's grammar
abbrev pub operands_of : ℕ → Instr → List Operand
operands_of at (Lui rd imm) = Register rd ∷ Number (upper_bits imm) ∷ []
operands_of at (Auipc rd imm) = Register rd ∷ Number (upper_bits imm) ∷ []
operands_of at (Jal rd offset) = Register rd ∷ Target (target at offset) ∷ []
operands_of at (Jalr rd rs1 offset) = Register rd ∷ Memory offset rs1 ∷ []
operands_of at (Branch op rs1 rs2 offset) = Register rs1 ∷ Register rs2 ∷ Target (target at offset) ∷ []
operands_of at (Load op rd rs1 offset) = Register rd ∷ Memory offset rs1 ∷ []
operands_of at (Store op rs1 rs2 offset) = Register rs2 ∷ Memory offset rs1 ∷ []
operands_of at (OpImm op rd rs1 imm) = Register rd ∷ Register rs1 ∷ Number imm ∷ []
operands_of at (ShiftImm op rd rs1 by) = Register rd ∷ Register rs1 ∷ Number by ∷ []
operands_of at (Addiw rd rs1 imm) = Register rd ∷ Register rs1 ∷ Number imm ∷ []
operands_of at (ShiftImm32 op rd rs1 by) = Register rd ∷ Register rs1 ∷ Number by ∷ []
operands_of at (Op op rd rs1 rs2) = Register rd ∷ Register rs1 ∷ Register rs2 ∷ []
operands_of at (Op32 op rd rs1 rs2) = Register rd ∷ Register rs1 ∷ Register rs2 ∷ []
operands_of at (Fence rd rs1 high) = []
operands_of at Ecall = []
operands_of at Ebreak = []
operands_of at (Lr width rd rs1 order) = Register rd ∷ Pointer rs1 ∷ []
operands_of at (Sc width rd rs1 rs2 order) = Register rd ∷ Register rs2 ∷ Pointer rs1 ∷ []
operands_of at (Amo op width rd rs1 rs2 order) = Register rd ∷ Register rs2 ∷ Pointer rs1 ∷ []
