-- The names of the operations.
use Rattle.std.specs.Prelude.{ℕ, List, [], ◌∷◌, ◌++◌, map, codes}
use Rattle.rv_word.specs.declared.instr.RegOp.{RegOp}
use Rattle.rv_word.specs.declared.instr.RegOp.TheVariants as reg
use Rattle.rv_word.specs.declared.instr.RegOp32.{RegOp32}
use Rattle.rv_word.specs.declared.instr.RegOp32.TheVariants as reg32
use Rattle.rv_word.specs.declared.instr.ImmOp.{ImmOp}
use Rattle.rv_word.specs.declared.instr.ImmOp.TheVariants as imm
use Rattle.rv_word.specs.declared.instr.ShiftOp.{ShiftOp}
use Rattle.rv_word.specs.declared.instr.ShiftOp.TheVariants as shift
use Rattle.rv_word.specs.declared.instr.LoadOp.{LoadOp}
use Rattle.rv_word.specs.declared.instr.LoadOp.TheVariants as load
use Rattle.rv_word.specs.declared.instr.StoreOp.{StoreOp}
use Rattle.rv_word.specs.declared.instr.StoreOp.TheVariants as store
use Rattle.rv_word.specs.declared.instr.BranchOp.{BranchOp}
use Rattle.rv_word.specs.declared.instr.BranchOp.TheVariants as branch
use Rattle.rv_word.specs.declared.instr.AmoOp.{AmoOp}
use Rattle.rv_word.specs.declared.instr.AmoOp.TheVariants as amo
use Rattle.rv_word.specs.declared.instr.AtomicWidth.{AtomicWidth}
use Rattle.rv_word.specs.declared.instr.AtomicWidth.TheVariants as width

-- on two registers
abbrev pub base_ops : List (List ℕ × RegOp)
base_ops =
    (codes "add", reg.Add) ∷ (codes "sub", reg.Sub) ∷ (codes "sll", reg.Sll) ∷ (codes "slt", reg.Slt)
    ∷ (codes "sltu", reg.Sltu) ∷ (codes "xor", reg.Xor) ∷ (codes "srl", reg.Srl) ∷ (codes "sra", reg.Sra)
    ∷ (codes "or", reg.Or) ∷ (codes "and", reg.And) ∷ []

-- a product of two registers
abbrev pub product_ops : List (List ℕ × RegOp)
product_ops =
    (codes "mulhsu", reg.Mulhsu) ∷ (codes "mulhu", reg.Mulhu) ∷ (codes "mulh", reg.Mulh) ∷ (codes "mul", reg.Mul) ∷ []

-- a quotient or remainder of two registers
abbrev pub quotient_ops : List (List ℕ × RegOp)
quotient_ops =
    (codes "div", reg.Div) ∷ (codes "divu", reg.Divu) ∷ (codes "rem", reg.Rem) ∷ (codes "remu", reg.Remu) ∷ []

-- any on two registers
abbrev pub register_ops : List (List ℕ × RegOp)
register_ops = base_ops ++ product_ops ++ quotient_ops

-- on the low halves of two registers
abbrev pub register_ops_32 : List (List ℕ × RegOp32)
register_ops_32 =
    (codes "addw", reg32.Addw) ∷ (codes "subw", reg32.Subw) ∷ (codes "sllw", reg32.Sllw) ∷ (codes "srlw", reg32.Srlw)
    ∷ (codes "sraw", reg32.Sraw) ∷ (codes "mulw", reg32.Mulw) ∷ (codes "divw", reg32.Divw)
    ∷ (codes "divuw", reg32.Divuw) ∷ (codes "remw", reg32.Remw) ∷ (codes "remuw", reg32.Remuw) ∷ []

-- on a register and a number
abbrev pub immediate_ops : List (List ℕ × ImmOp)
immediate_ops =
    (codes "addi", imm.Addi) ∷ (codes "slti", imm.Slti) ∷ (codes "sltiu", imm.Sltiu) ∷ (codes "xori", imm.Xori)
    ∷ (codes "ori", imm.Ori) ∷ (codes "andi", imm.Andi) ∷ []

-- a shift by a number
abbrev pub shift_ops : List (List ℕ × ShiftOp)
shift_ops =
    (codes "slli", shift.Sll) ∷ (codes "srli", shift.Srl) ∷ (codes "srai", shift.Sra) ∷ []

-- a shift of a low half by a number
abbrev pub shift_ops_32 : List (List ℕ × ShiftOp)
shift_ops_32 =
    (codes "slliw", shift.Sll) ∷ (codes "srliw", shift.Srl) ∷ (codes "sraiw", shift.Sra) ∷ []

-- a load
abbrev pub load_ops : List (List ℕ × LoadOp)
load_ops =
    (codes "lb", load.Lb) ∷ (codes "lh", load.Lh) ∷ (codes "lw", load.Lw) ∷ (codes "ld", load.Ld)
    ∷ (codes "lbu", load.Lbu) ∷ (codes "lhu", load.Lhu) ∷ (codes "lwu", load.Lwu) ∷ []

-- a store
abbrev pub store_ops : List (List ℕ × StoreOp)
store_ops =
    (codes "sb", store.Sb) ∷ (codes "sh", store.Sh) ∷ (codes "sw", store.Sw) ∷ (codes "sd", store.Sd) ∷ []

-- a branch
abbrev pub branch_ops : List (List ℕ × BranchOp)
branch_ops =
    (codes "beq", branch.Beq) ∷ (codes "bne", branch.Bne) ∷ (codes "blt", branch.Blt) ∷ (codes "bge", branch.Bge)
    ∷ (codes "bltu", branch.Bltu) ∷ (codes "bgeu", branch.Bgeu) ∷ []

-- a branch on a register and zero
abbrev pub zero_branch_ops : List (List ℕ × BranchOp)
zero_branch_ops =
    (codes "beqz", branch.Beq) ∷ (codes "bnez", branch.Bne) ∷ []

-- an AMO, after `amo`
abbrev pub atomic_ops : List (List ℕ × AmoOp)
atomic_ops =
    (codes "swap", amo.Swap) ∷ (codes "add", amo.Add) ∷ (codes "xor", amo.Xor) ∷ (codes "and", amo.And)
    ∷ (codes "or", amo.Or) ∷ (codes "min", amo.Min) ∷ (codes "max", amo.Max) ∷ (codes "minu", amo.Minu)
    ∷ (codes "maxu", amo.Maxu) ∷ []

-- an AMO, before its width
abbrev pub amo_ops : List (List ℕ × AmoOp)
amo_ops = map (λ op. (codes "amo" ++ op.0, op.1)) atomic_ops

-- the width of an atomic access
abbrev pub atomic_widths : List (List ℕ × AtomicWidth)
atomic_widths =
    (codes ".w", width.Word) ∷ (codes ".d", width.Doubleword) ∷ []
