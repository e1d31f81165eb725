-- The codes of operations in the fields of a word.
use Rattle.std.specs.Prelude.{ℕ, ◌==◌, ◌&&◌, if◌then◌else◌, Option, Some, None, List, [], ◌∷◌}
use Rattle.rv_word.specs.declared.instr.BranchOp.{BranchOp}
use Rattle.rv_word.specs.declared.instr.BranchOp.TheVariants.{Beq, Bne, Blt, Bge, Bltu, Bgeu}
use Rattle.rv_word.specs.declared.instr.LoadOp.{LoadOp}
use Rattle.rv_word.specs.declared.instr.LoadOp.TheVariants.{Lb, Lh, Lw, Ld, Lbu, Lhu, Lwu}
use Rattle.rv_word.specs.declared.instr.StoreOp.{StoreOp}
use Rattle.rv_word.specs.declared.instr.StoreOp.TheVariants.{Sb, Sh, Sw, Sd}
use Rattle.rv_word.specs.declared.instr.ImmOp.{ImmOp}
use Rattle.rv_word.specs.declared.instr.ImmOp.TheVariants.{Addi, Slti, Sltiu, Xori, Ori, Andi}
use Rattle.rv_word.specs.declared.instr.RegOp.{RegOp}
use Rattle.rv_word.specs.declared.instr.RegOp.TheVariants as reg
use Rattle.rv_word.specs.declared.instr.RegOp32.{RegOp32}
use Rattle.rv_word.specs.declared.instr.RegOp32.TheVariants as reg32
use Rattle.rv_word.specs.declared.instr.AmoOp.{AmoOp}
use Rattle.rv_word.specs.declared.instr.AmoOp.TheVariants as amo
use Rattle.rv_word.specs.declared.instr.AtomicWidth.{AtomicWidth}
use Rattle.rv_word.specs.declared.instr.AtomicWidth.TheVariants.{Word, Doubleword}

-- the first of these whose code is n
abbrev pub with_code : {A : Type 0} → (A → ℕ) → List A → ℕ → Option A
with_code code [] n = None
with_code code (x ∷ xs) n = if n == code x then Some x else with_code code xs n

-- the first of these whose two codes they are
abbrev pub with_codes : {A : Type 0} → (A → ℕ × ℕ) → List A → ℕ → ℕ → Option A
with_codes codes [] m n = None
with_codes codes (x ∷ xs) m n = if (m == (codes x).0) && (n == (codes x).1) then Some x else with_codes codes xs m n

abbrev pub branch_code : BranchOp → ℕ
branch_code Beq = 0
branch_code Bne = 1
branch_code Blt = 4
branch_code Bge = 5
branch_code Bltu = 6
branch_code Bgeu = 7

abbrev pub branch_op_of : ℕ → Option BranchOp
branch_op_of n = with_code branch_code (Beq ∷ Bne ∷ Blt ∷ Bge ∷ Bltu ∷ Bgeu ∷ []) n

abbrev pub load_code : LoadOp → ℕ
load_code Lb = 0
load_code Lh = 1
load_code Lw = 2
load_code Ld = 3
load_code Lbu = 4
load_code Lhu = 5
load_code Lwu = 6

abbrev pub load_op_of : ℕ → Option LoadOp
load_op_of n = with_code load_code (Lb ∷ Lh ∷ Lw ∷ Ld ∷ Lbu ∷ Lhu ∷ Lwu ∷ []) n

abbrev pub store_code : StoreOp → ℕ
store_code Sb = 0
store_code Sh = 1
store_code Sw = 2
store_code Sd = 3

abbrev pub store_op_of : ℕ → Option StoreOp
store_op_of n = with_code store_code (Sb ∷ Sh ∷ Sw ∷ Sd ∷ []) n

abbrev pub imm_code : ImmOp → ℕ
imm_code Addi = 0
imm_code Slti = 2
imm_code Sltiu = 3
imm_code Xori = 4
imm_code Ori = 6
imm_code Andi = 7

abbrev pub imm_op_of : ℕ → Option ImmOp
imm_op_of n = with_code imm_code (Addi ∷ Slti ∷ Sltiu ∷ Xori ∷ Ori ∷ Andi ∷ []) n

-- funct7 and funct3
abbrev pub reg_codes : RegOp → ℕ × ℕ
reg_codes reg.Add = (0, 0)
reg_codes reg.Sll = (0, 1)
reg_codes reg.Slt = (0, 2)
reg_codes reg.Sltu = (0, 3)
reg_codes reg.Xor = (0, 4)
reg_codes reg.Srl = (0, 5)
reg_codes reg.Or = (0, 6)
reg_codes reg.And = (0, 7)
reg_codes reg.Sub = (0x20, 0)
reg_codes reg.Sra = (0x20, 5)
reg_codes reg.Mul = (1, 0)
reg_codes reg.Mulh = (1, 1)
reg_codes reg.Mulhsu = (1, 2)
reg_codes reg.Mulhu = (1, 3)
reg_codes reg.Div = (1, 4)
reg_codes reg.Divu = (1, 5)
reg_codes reg.Rem = (1, 6)
reg_codes reg.Remu = (1, 7)

abbrev pub reg_op_of : ℕ → ℕ → Option RegOp
reg_op_of funct7 funct3 =
    with_codes reg_codes
    (reg.Add ∷ reg.Sll ∷ reg.Slt ∷ reg.Sltu ∷ reg.Xor ∷ reg.Srl ∷ reg.Or ∷ reg.And ∷ reg.Sub ∷ reg.Sra
    ∷ reg.Mul ∷ reg.Mulh ∷ reg.Mulhsu ∷ reg.Mulhu ∷ reg.Div ∷ reg.Divu ∷ reg.Rem ∷ reg.Remu ∷ [])
    funct7 funct3

abbrev pub reg_32_codes : RegOp32 → ℕ × ℕ
reg_32_codes reg32.Addw = (0, 0)
reg_32_codes reg32.Sllw = (0, 1)
reg_32_codes reg32.Srlw = (0, 5)
reg_32_codes reg32.Subw = (0x20, 0)
reg_32_codes reg32.Sraw = (0x20, 5)
reg_32_codes reg32.Mulw = (1, 0)
reg_32_codes reg32.Divw = (1, 4)
reg_32_codes reg32.Divuw = (1, 5)
reg_32_codes reg32.Remw = (1, 6)
reg_32_codes reg32.Remuw = (1, 7)

abbrev pub reg_op_32_of : ℕ → ℕ → Option RegOp32
reg_op_32_of funct7 funct3 =
    with_codes reg_32_codes
    (reg32.Addw ∷ reg32.Sllw ∷ reg32.Srlw ∷ reg32.Subw ∷ reg32.Sraw
    ∷ reg32.Mulw ∷ reg32.Divw ∷ reg32.Divuw ∷ reg32.Remw ∷ reg32.Remuw ∷ [])
    funct7 funct3

abbrev pub width_code : AtomicWidth → ℕ
width_code Word = 2
width_code Doubleword = 3

abbrev pub width_of : ℕ → Option AtomicWidth
width_of n = with_code width_code (Word ∷ Doubleword ∷ []) n

abbrev pub amo_code : AmoOp → ℕ
amo_code amo.Swap = 1
amo_code amo.Add = 0
amo_code amo.Xor = 4
amo_code amo.And = 12
amo_code amo.Or = 8
amo_code amo.Min = 16
amo_code amo.Max = 20
amo_code amo.Minu = 24
amo_code amo.Maxu = 28

abbrev pub amo_op_of : ℕ → Option AmoOp
amo_op_of n = with_code amo_code (amo.Swap ∷ amo.Add ∷ amo.Xor ∷ amo.And ∷ amo.Or ∷ amo.Min ∷ amo.Max ∷ amo.Minu ∷ amo.Maxu ∷ []) n
