-- The name of an operation is that of the code's first form that makes its bare instruction.
use Rattle.std.proofs.Common.{◌≡◌, ℕ, map, refl}
use Rattle.rv_word.specs.Words.{word_of}
use Rattle.rv_word.specs.declared.instr.AmoOp.{AmoOp}
use Rattle.rv_word.specs.declared.instr.AmoOp.TheVariants as amo
use Rattle.rv_word.specs.declared.instr.AtomicWidth.TheVariants as width
use Rattle.rv_word.specs.declared.instr.BranchOp.{BranchOp}
use Rattle.rv_word.specs.declared.instr.ImmOp.TheVariants as imm
use Rattle.rv_word.specs.declared.instr.Instr.{Instr}
use Rattle.rv_word.specs.declared.instr.Instr.TheVariants.{Lui, Auipc, Jal, Jalr, Branch, Load, Store, OpImm, ShiftImm, Addiw, ShiftImm32, Op, Op32, Fence, Ecall, Ebreak, Lr, Sc, Amo}
use Rattle.rv_word.specs.declared.instr.LoadOp.TheVariants as load
use Rattle.rv_word.specs.declared.instr.RegOp.TheVariants as reg
use Rattle.rv_word.specs.declared.instr.RegOp32.TheVariants as reg32
use Rattle.rv_word.specs.declared.instr.ShiftOp.TheVariants as shift
use Rattle.rv_word.specs.declared.instr.StoreOp.TheVariants as store
use Rattle.rv_asm.specs.declared.plain_forms.TheConstants.{PLAIN_FORMS}
use Rattle.disassembler.specs.FormsSeen.{bare, name_with, plain_instr}
use Rattle.disassembler.specs.Texts.{mnemonic}

abbrev IsNamed : Instr → Type 0
IsNamed i = name_with plain_instr (word_of (bare i)) (map (λ row. (row.0.now, row.1)) PLAIN_FORMS) ≡ mnemonic i

amo_named : (op : AmoOp) (rd rs1 rs2 order : ℕ) → IsNamed (Amo op width.Word rd rs1 rs2 order) × IsNamed (Amo op width.Doubleword rd rs1 rs2 order)
amo_named amo.Swap rd rs1 rs2 order = (refl, refl)
amo_named amo.Add rd rs1 rs2 order = (refl, refl)
amo_named amo.Xor rd rs1 rs2 order = (refl, refl)
amo_named amo.And rd rs1 rs2 order = (refl, refl)
amo_named amo.Or rd rs1 rs2 order = (refl, refl)
amo_named amo.Min rd rs1 rs2 order = (refl, refl)
amo_named amo.Max rd rs1 rs2 order = (refl, refl)
amo_named amo.Minu rd rs1 rs2 order = (refl, refl)
amo_named amo.Maxu rd rs1 rs2 order = (refl, refl)

-- of all but jumps and branches
pub plain_named : (i : Instr) → ((rd offset : ℕ) → i ≡ Jal rd offset → ⊥) → ((op : BranchOp) (rs1 rs2 offset : ℕ) → i ≡ Branch op rs1 rs2 offset → ⊥) → IsNamed i
plain_named (Lui rd imm) j b = refl
plain_named (Auipc rd imm) j b = refl
plain_named (Jal rd offset) j b = absurd (j rd offset refl)
plain_named (Jalr rd rs1 offset) j b = refl
plain_named (Branch op rs1 rs2 offset) j b = absurd (b op rs1 rs2 offset refl)
plain_named (Load load.Lb rd rs1 offset) j b = refl
plain_named (Load load.Lh rd rs1 offset) j b = refl
plain_named (Load load.Lw rd rs1 offset) j b = refl
plain_named (Load load.Ld rd rs1 offset) j b = refl
plain_named (Load load.Lbu rd rs1 offset) j b = refl
plain_named (Load load.Lhu rd rs1 offset) j b = refl
plain_named (Load load.Lwu rd rs1 offset) j b = refl
plain_named (Store store.Sb rs1 rs2 offset) j b = refl
plain_named (Store store.Sh rs1 rs2 offset) j b = refl
plain_named (Store store.Sw rs1 rs2 offset) j b = refl
plain_named (Store store.Sd rs1 rs2 offset) j b = refl
plain_named (OpImm imm.Addi rd rs1 imm) j b = refl
plain_named (OpImm imm.Slti rd rs1 imm) j b = refl
plain_named (OpImm imm.Sltiu rd rs1 imm) j b = refl
plain_named (OpImm imm.Xori rd rs1 imm) j b = refl
plain_named (OpImm imm.Ori rd rs1 imm) j b = refl
plain_named (OpImm imm.Andi rd rs1 imm) j b = refl
plain_named (ShiftImm shift.Sll rd rs1 by) j b = refl
plain_named (ShiftImm shift.Srl rd rs1 by) j b = refl
plain_named (ShiftImm shift.Sra rd rs1 by) j b = refl
plain_named (Addiw rd rs1 imm) j b = refl
plain_named (ShiftImm32 shift.Sll rd rs1 by) j b = refl
plain_named (ShiftImm32 shift.Srl rd rs1 by) j b = refl
plain_named (ShiftImm32 shift.Sra rd rs1 by) j b = refl
plain_named (Op reg.Add rd rs1 rs2) j b = refl
plain_named (Op reg.Sll rd rs1 rs2) j b = refl
plain_named (Op reg.Slt rd rs1 rs2) j b = refl
plain_named (Op reg.Sltu rd rs1 rs2) j b = refl
plain_named (Op reg.Xor rd rs1 rs2) j b = refl
plain_named (Op reg.Srl rd rs1 rs2) j b = refl
plain_named (Op reg.Or rd rs1 rs2) j b = refl
plain_named (Op reg.And rd rs1 rs2) j b = refl
plain_named (Op reg.Sub rd rs1 rs2) j b = refl
plain_named (Op reg.Sra rd rs1 rs2) j b = refl
plain_named (Op reg.Mul rd rs1 rs2) j b = refl
plain_named (Op reg.Mulh rd rs1 rs2) j b = refl
plain_named (Op reg.Mulhsu rd rs1 rs2) j b = refl
plain_named (Op reg.Mulhu rd rs1 rs2) j b = refl
plain_named (Op reg.Div rd rs1 rs2) j b = refl
plain_named (Op reg.Divu rd rs1 rs2) j b = refl
plain_named (Op reg.Rem rd rs1 rs2) j b = refl
plain_named (Op reg.Remu rd rs1 rs2) j b = refl
plain_named (Op32 reg32.Addw rd rs1 rs2) j b = refl
plain_named (Op32 reg32.Sllw rd rs1 rs2) j b = refl
plain_named (Op32 reg32.Srlw rd rs1 rs2) j b = refl
plain_named (Op32 reg32.Subw rd rs1 rs2) j b = refl
plain_named (Op32 reg32.Sraw rd rs1 rs2) j b = refl
plain_named (Op32 reg32.Mulw rd rs1 rs2) j b = refl
plain_named (Op32 reg32.Divw rd rs1 rs2) j b = refl
plain_named (Op32 reg32.Divuw rd rs1 rs2) j b = refl
plain_named (Op32 reg32.Remw rd rs1 rs2) j b = refl
plain_named (Op32 reg32.Remuw rd rs1 rs2) j b = refl
plain_named (Fence rd rs1 high) j b = refl
plain_named Ecall j b = refl
plain_named Ebreak j b = refl
plain_named (Lr width.Word rd rs1 order) j b = refl
plain_named (Lr width.Doubleword rd rs1 order) j b = refl
plain_named (Sc width.Word rd rs1 rs2 order) j b = refl
plain_named (Sc width.Doubleword rd rs1 rs2 order) j b = refl
plain_named (Amo op width.Word rd rs1 rs2 order) j b = (amo_named op rd rs1 rs2 order).0
plain_named (Amo op width.Doubleword rd rs1 rs2 order) j b = (amo_named op rd rs1 rs2 order).1
