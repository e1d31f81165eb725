-- The word of an instruction: the table read from the other side.
use Rattle.std.specs.Prelude.{ℕ, Option, Some, None, ◌+◌, ◌*◌, ◌/◌, ◌%◌, ◌^◌, ◌<◌, ◌≡◌}
use Rattle.rv_word.specs.Fields.{extended}
use Rattle.rv_word.specs.InstrRegisters.{registers_of}
use Rattle.rv_word.specs.Codes.{branch_code, load_code, store_code, imm_code, reg_codes, reg_32_codes, amo_code, width_code}
use Rattle.rv_word.specs.declared.instr.ShiftOp.{ShiftOp}
use Rattle.rv_word.specs.declared.instr.ShiftOp.TheVariants as shift
use Rattle.rv_word.specs.declared.instr.Instr.{Instr}
use Rattle.rv_word.specs.declared.instr.Instr.TheVariants.{Lui, Auipc, Jal, Jalr, Branch, Load, Store, OpImm, ShiftImm, Addiw, ShiftImm32, Op, Op32, Fence, Ecall, Ebreak, Lr, Sc, Amo}

abbrev pub shift_code : ShiftOp → ℕ
shift_code shift.Sll = 1
shift_code shift.Srl = 5
shift_code shift.Sra = 5

-- bit 30 of a right shift
abbrev pub shift_top : ShiftOp → ℕ
shift_top shift.Sll = 0
shift_top shift.Srl = 0
shift_top shift.Sra = 32

-- the place of the fields of format R, which the others but U and J share
abbrev pub r_form : ℕ → ℕ → ℕ → ℕ → ℕ → ℕ → ℕ
r_form opcode rd funct3 rs1 rs2 funct7 =
    opcode + rd % 32 * 2 ^ 7 + funct3 * 2 ^ 12 + rs1 % 32 * 2 ^ 15 + rs2 % 32 * 2 ^ 20 + funct7 * 2 ^ 25

abbrev pub i_form : ℕ → ℕ → ℕ → ℕ → ℕ → ℕ
i_form opcode rd funct3 rs1 imm = opcode + rd % 32 * 2 ^ 7 + funct3 * 2 ^ 12 + rs1 % 32 * 2 ^ 15 + imm % 4096 * 2 ^ 20

abbrev pub s_form : ℕ → ℕ → ℕ → ℕ → ℕ → ℕ
s_form opcode funct3 rs1 rs2 imm = r_form opcode imm funct3 rs1 rs2 (imm / 32 % 128)

abbrev pub b_form : ℕ → ℕ → ℕ → ℕ → ℕ → ℕ
b_form opcode funct3 rs1 rs2 imm = r_form opcode (imm / 2 % 16 * 2 + imm / 2048 % 2) funct3 rs1 rs2 (imm / 32 % 64 + imm / 4096 % 2 * 64)

abbrev pub u_form : ℕ → ℕ → ℕ → ℕ
u_form opcode rd imm = opcode + rd % 32 * 2 ^ 7 + imm / 2 ^ 12 % 2 ^ 20 * 2 ^ 12

abbrev pub j_form : ℕ → ℕ → ℕ → ℕ
j_form opcode rd imm =
    opcode + rd % 32 * 2 ^ 7 + imm / 4096 % 256 * 2 ^ 12 + imm / 2048 % 2 * 2 ^ 20 + imm / 2 % 1024 * 2 ^ 21 + imm / 2 ^ 20 % 2 * 2 ^ 31

abbrev pub word_of : Instr → ℕ
word_of (Lui rd imm) = u_form 0x37 rd imm
word_of (Auipc rd imm) = u_form 0x17 rd imm
word_of (Jal rd offset) = j_form 0x6f rd offset
word_of (Jalr rd rs1 offset) = i_form 0x67 rd 0 rs1 offset
word_of (Branch op rs1 rs2 offset) = b_form 0x63 (branch_code op) rs1 rs2 offset
word_of (Load op rd rs1 offset) = i_form 0x03 rd (load_code op) rs1 offset
word_of (Store op rs1 rs2 offset) = s_form 0x23 (store_code op) rs1 rs2 offset
word_of (OpImm op rd rs1 imm) = i_form 0x13 rd (imm_code op) rs1 imm
word_of (ShiftImm op rd rs1 by) = i_form 0x13 rd (shift_code op) rs1 (by % 64 + shift_top op * 32)
word_of (Addiw rd rs1 imm) = i_form 0x1b rd 0 rs1 imm
word_of (ShiftImm32 op rd rs1 by) = r_form 0x1b rd (shift_code op) rs1 by (shift_top op)
word_of (Op op rd rs1 rs2) = r_form 0x33 rd (reg_codes op).1 rs1 rs2 (reg_codes op).0
word_of (Op32 op rd rs1 rs2) = r_form 0x3b rd (reg_32_codes op).1 rs1 rs2 (reg_32_codes op).0
word_of (Fence rd rs1 high) = i_form 0x0f rd 0 rs1 high
word_of Ecall = 0x00000073
word_of Ebreak = 0x00100073
word_of (Lr width rd rs1 order) = r_form 0x2f rd (width_code width) rs1 0 (order % 4 + 2 * 4)
word_of (Sc width rd rs1 rs2 order) = r_form 0x2f rd (width_code width) rs1 rs2 (order % 4 + 3 * 4)
word_of (Amo op width rd rs1 rs2 order) = r_form 0x2f rd (width_code width) rs1 rs2 (order % 4 + amo_code op * 4)

-- n is a number of this many bits with its sign, as 64 bits
abbrev pub IsExtended : ℕ → ℕ → Type 0
IsExtended bits n = extended bits (n % 2 ^ bits) ≡ n

-- an offset of whole halfwords
abbrev pub IsJump : ℕ → ℕ → Type 0
IsJump bits n = IsExtended bits n × (n % 2 ≡ 0)

abbrev pub IsRegister : Option ℕ → Type 0
IsRegister None = Unit {0}
IsRegister (Some r) = r < 32

-- the numbers other than those of registers fit their fields
abbrev pub HasNumbers : Instr → Type 0
HasNumbers (Lui rd imm) = IsExtended 32 imm × (imm % 4096 ≡ 0)
HasNumbers (Auipc rd imm) = IsExtended 32 imm × (imm % 4096 ≡ 0)
HasNumbers (Jal rd offset) = IsJump 21 offset
HasNumbers (Jalr rd rs1 offset) = IsExtended 12 offset
HasNumbers (Branch op rs1 rs2 offset) = IsJump 13 offset
HasNumbers (Load op rd rs1 offset) = IsExtended 12 offset
HasNumbers (Store op rs1 rs2 offset) = IsExtended 12 offset
HasNumbers (OpImm op rd rs1 imm) = IsExtended 12 imm
HasNumbers (ShiftImm op rd rs1 by) = by < 64
HasNumbers (Addiw rd rs1 imm) = IsExtended 12 imm
HasNumbers (ShiftImm32 op rd rs1 by) = by < 32
HasNumbers (Fence rd rs1 high) = (rd < 32) × (rs1 < 32) × (high < 4096)
HasNumbers (Lr width rd rs1 order) = order < 4
HasNumbers (Sc width rd rs1 rs2 order) = order < 4
HasNumbers (Amo op width rd rs1 rs2 order) = order < 4
HasNumbers i = Unit {0}

-- what has a word: each number fits its field
abbrev pub HasWord : Instr → Type 0
HasWord i = IsRegister (registers_of i).rd × IsRegister (registers_of i).rs1 × IsRegister (registers_of i).rs2 × HasNumbers i
