-- The instruction of a variant for each operation, and the instructions for which it stands.
use Rattle.std.specs.Prelude.{◌≡◌, ℕ, ◌*◌, ◌≤◌, ◌==◌, Bool, true, false, Option, Some, None, List, IfSome, ℤ}
use Rattle.std.specs.Int.{w64, cast_unsigned}
use Rattle.rv_word.specs.declared.instr.BranchOp.TheVariants as branch
use Rattle.rv_word.specs.declared.instr.LoadOp.TheVariants as load
use Rattle.rv_word.specs.declared.instr.StoreOp.TheVariants as store
use Rattle.rv_word.specs.declared.instr.ImmOp.TheVariants as immediate
use Rattle.rv_word.specs.declared.instr.ShiftOp.TheVariants as shift
use Rattle.rv_word.specs.declared.instr.RegOp.TheVariants as reg
use Rattle.rv_word.specs.declared.instr.RegOp32.TheVariants as reg32
use Rattle.rv_word.specs.declared.instr.Instr.{Instr}
use Rattle.rv_word.specs.declared.instr.Instr.TheVariants.{Lui, Auipc, Jal, Jalr, Branch, Load, Store, OpImm, ShiftImm, Addiw, ShiftImm32, Op, Op32, Fence}
use Rattle.rv_word.specs.Exec.{Prog, exec_decoded, exec_instr}
use Rattle.rv_word.specs.InstrRegisters.{registers_of}
use Rattle.rv_word.specs.Values.{wrap}
use Rattle.rv_word.specs.Words.{HasWord}
use Rattle.rv_exec.specs.declared.flat.Flat.{Flat}
use Rattle.rv_exec.specs.declared.flat.Flat.TheVariants as flat

-- the 64-bit number of an immediate with its sign
abbrev pub wide : ℤ → ℕ
wide n = cast_unsigned w64 n

-- the offset of a number of words with its sign
abbrev pub offset_of : ℤ → ℕ
offset_of words = wrap (4 * wide words)

abbrev pub instr_of : Flat → Option Instr
instr_of flat.Rest = None
instr_of flat.Nop = Some (Fence 0 0 0)
instr_of (flat.Lui rd imm) = Some (Lui rd (wide imm))
instr_of (flat.Auipc rd imm) = Some (Auipc rd (wide imm))
instr_of (flat.Jal rd words) = Some (Jal rd (offset_of words))
instr_of (flat.J words) = Some (Jal 0 (offset_of words))
instr_of (flat.Jalr rd rs1 imm) = Some (Jalr rd rs1 (wide imm))
instr_of (flat.Jr rs1 imm) = Some (Jalr 0 rs1 (wide imm))
instr_of (flat.Beq rs1 rs2 words) = Some (Branch branch.Beq rs1 rs2 (offset_of words))
instr_of (flat.Bne rs1 rs2 words) = Some (Branch branch.Bne rs1 rs2 (offset_of words))
instr_of (flat.Blt rs1 rs2 words) = Some (Branch branch.Blt rs1 rs2 (offset_of words))
instr_of (flat.Bge rs1 rs2 words) = Some (Branch branch.Bge rs1 rs2 (offset_of words))
instr_of (flat.Bltu rs1 rs2 words) = Some (Branch branch.Bltu rs1 rs2 (offset_of words))
instr_of (flat.Bgeu rs1 rs2 words) = Some (Branch branch.Bgeu rs1 rs2 (offset_of words))
instr_of (flat.Lb rd rs1 imm) = Some (Load load.Lb rd rs1 (wide imm))
instr_of (flat.Lh rd rs1 imm) = Some (Load load.Lh rd rs1 (wide imm))
instr_of (flat.Lw rd rs1 imm) = Some (Load load.Lw rd rs1 (wide imm))
instr_of (flat.Ld rd rs1 imm) = Some (Load load.Ld rd rs1 (wide imm))
instr_of (flat.Lbu rd rs1 imm) = Some (Load load.Lbu rd rs1 (wide imm))
instr_of (flat.Lhu rd rs1 imm) = Some (Load load.Lhu rd rs1 (wide imm))
instr_of (flat.Lwu rd rs1 imm) = Some (Load load.Lwu rd rs1 (wide imm))
instr_of (flat.Sb rs1 rs2 imm) = Some (Store store.Sb rs1 rs2 (wide imm))
instr_of (flat.Sh rs1 rs2 imm) = Some (Store store.Sh rs1 rs2 (wide imm))
instr_of (flat.Sw rs1 rs2 imm) = Some (Store store.Sw rs1 rs2 (wide imm))
instr_of (flat.Sd rs1 rs2 imm) = Some (Store store.Sd rs1 rs2 (wide imm))
instr_of (flat.Addi rd rs1 imm) = Some (OpImm immediate.Addi rd rs1 (wide imm))
instr_of (flat.Slti rd rs1 imm) = Some (OpImm immediate.Slti rd rs1 (wide imm))
instr_of (flat.Sltiu rd rs1 imm) = Some (OpImm immediate.Sltiu rd rs1 (wide imm))
instr_of (flat.Xori rd rs1 imm) = Some (OpImm immediate.Xori rd rs1 (wide imm))
instr_of (flat.Ori rd rs1 imm) = Some (OpImm immediate.Ori rd rs1 (wide imm))
instr_of (flat.Andi rd rs1 imm) = Some (OpImm immediate.Andi rd rs1 (wide imm))
instr_of (flat.Slli rd rs1 by) = Some (ShiftImm shift.Sll rd rs1 by)
instr_of (flat.Srli rd rs1 by) = Some (ShiftImm shift.Srl rd rs1 by)
instr_of (flat.Srai rd rs1 by) = Some (ShiftImm shift.Sra rd rs1 by)
instr_of (flat.Addiw rd rs1 imm) = Some (Addiw rd rs1 (wide imm))
instr_of (flat.Slliw rd rs1 by) = Some (ShiftImm32 shift.Sll rd rs1 by)
instr_of (flat.Srliw rd rs1 by) = Some (ShiftImm32 shift.Srl rd rs1 by)
instr_of (flat.Sraiw rd rs1 by) = Some (ShiftImm32 shift.Sra rd rs1 by)
instr_of (flat.Add rd rs1 rs2) = Some (Op reg.Add rd rs1 rs2)
instr_of (flat.Sll rd rs1 rs2) = Some (Op reg.Sll rd rs1 rs2)
instr_of (flat.Slt rd rs1 rs2) = Some (Op reg.Slt rd rs1 rs2)
instr_of (flat.Sltu rd rs1 rs2) = Some (Op reg.Sltu rd rs1 rs2)
instr_of (flat.Xor rd rs1 rs2) = Some (Op reg.Xor rd rs1 rs2)
instr_of (flat.Srl rd rs1 rs2) = Some (Op reg.Srl rd rs1 rs2)
instr_of (flat.Or rd rs1 rs2) = Some (Op reg.Or rd rs1 rs2)
instr_of (flat.And rd rs1 rs2) = Some (Op reg.And rd rs1 rs2)
instr_of (flat.Sub rd rs1 rs2) = Some (Op reg.Sub rd rs1 rs2)
instr_of (flat.Sra rd rs1 rs2) = Some (Op reg.Sra rd rs1 rs2)
instr_of (flat.Mul rd rs1 rs2) = Some (Op reg.Mul rd rs1 rs2)
instr_of (flat.Mulh rd rs1 rs2) = Some (Op reg.Mulh rd rs1 rs2)
instr_of (flat.Mulhsu rd rs1 rs2) = Some (Op reg.Mulhsu rd rs1 rs2)
instr_of (flat.Mulhu rd rs1 rs2) = Some (Op reg.Mulhu rd rs1 rs2)
instr_of (flat.Div rd rs1 rs2) = Some (Op reg.Div rd rs1 rs2)
instr_of (flat.Divu rd rs1 rs2) = Some (Op reg.Divu rd rs1 rs2)
instr_of (flat.Rem rd rs1 rs2) = Some (Op reg.Rem rd rs1 rs2)
instr_of (flat.Remu rd rs1 rs2) = Some (Op reg.Remu rd rs1 rs2)
instr_of (flat.Addw rd rs1 rs2) = Some (Op32 reg32.Addw rd rs1 rs2)
instr_of (flat.Sllw rd rs1 rs2) = Some (Op32 reg32.Sllw rd rs1 rs2)
instr_of (flat.Srlw rd rs1 rs2) = Some (Op32 reg32.Srlw rd rs1 rs2)
instr_of (flat.Subw rd rs1 rs2) = Some (Op32 reg32.Subw rd rs1 rs2)
instr_of (flat.Sraw rd rs1 rs2) = Some (Op32 reg32.Sraw rd rs1 rs2)
instr_of (flat.Mulw rd rs1 rs2) = Some (Op32 reg32.Mulw rd rs1 rs2)
instr_of (flat.Divw rd rs1 rs2) = Some (Op32 reg32.Divw rd rs1 rs2)
instr_of (flat.Divuw rd rs1 rs2) = Some (Op32 reg32.Divuw rd rs1 rs2)
instr_of (flat.Remw rd rs1 rs2) = Some (Op32 reg32.Remw rd rs1 rs2)
instr_of (flat.Remuw rd rs1 rs2) = Some (Op32 reg32.Remuw rd rs1 rs2)

abbrev pub IsAboveZero : Option ℕ → Type 0
IsAboveZero None = Unit {0}
IsAboveZero (Some r) = 1 ≤ r

-- the register that takes the result isn't x0; of these it is, or there is none
abbrev pub PutsResult : Flat → Type 0
PutsResult flat.Nop = Unit {0}
PutsResult (flat.J words) = Unit {0}
PutsResult (flat.Jr rs1 imm) = Unit {0}
PutsResult f = IfSome (instr_of f) (λ i. IsAboveZero (registers_of i).rd)

-- what can be run: its numbers fit
pub record CanRunFlat (f : Flat) : Type 0 where
  pub word : IfSome (instr_of f) HasWord
  pub result : PutsResult f

-- the instruction does what the other does
abbrev pub DoesAs : Option Instr → Instr → Type 0
DoesAs i j = (pc h : ℕ) (regs : List ℕ) (p : Prog) → exec_decoded i pc h regs p ≡ exec_instr j pc h regs p

-- the flat of an instruction does what that does, if it is one at all
pub record IsFlatOf (i : Option Instr) (f : Flat) : Type 0 where
  pub does : IfSome (instr_of f) (DoesAs i)
  pub can_run : CanRunFlat f

-- ---- for proofs alone

-- the instruction does nothing but that the hart goes on: a fence does so, and what computes for x0
abbrev pub is_idle : Instr → Bool
is_idle (Lui rd imm) = rd == 0
is_idle (Auipc rd imm) = rd == 0
is_idle (OpImm op rd rs1 imm) = rd == 0
is_idle (ShiftImm op rd rs1 by) = rd == 0
is_idle (Addiw rd rs1 imm) = rd == 0
is_idle (ShiftImm32 op rd rs1 by) = rd == 0
is_idle (Op op rd rs1 rs2) = rd == 0
is_idle (Op32 op rd rs1 rs2) = rd == 0
is_idle (Fence rd rs1 high) = true
is_idle i = false
