-- The assembler's form for the name of an operation.
use Rattle.std.proofs.Common.{◌≡◌, ℕ, ◌&&◌, nat_lt, true, Option, List, [], length, refl}
use Rattle.std.specs.List.{list_all}
use Rattle.rv_word.specs.declared.instr.AmoOp.{AmoOp}
use Rattle.rv_word.specs.declared.instr.AmoOp.TheVariants as amo
use Rattle.rv_word.specs.declared.instr.AtomicWidth.{AtomicWidth}
use Rattle.rv_word.specs.declared.instr.AtomicWidth.TheVariants as width
use Rattle.rv_word.specs.declared.instr.BranchOp.{BranchOp}
use Rattle.rv_word.specs.declared.instr.BranchOp.TheVariants as branch
use Rattle.rv_word.specs.declared.instr.ImmOp.{ImmOp}
use Rattle.rv_word.specs.declared.instr.ImmOp.TheVariants as imm
use Rattle.rv_word.specs.declared.instr.Instr.{Instr}
use Rattle.rv_word.specs.declared.instr.Instr.TheVariants.{Lui, Auipc, Jal, Jalr, Branch, Load, Store, OpImm, ShiftImm, Addiw, ShiftImm32, Op, Op32, Fence, Ecall, Ebreak, Lr, Sc, Amo}
use Rattle.rv_word.specs.declared.instr.LoadOp.{LoadOp}
use Rattle.rv_word.specs.declared.instr.LoadOp.TheVariants as load
use Rattle.rv_word.specs.declared.instr.RegOp.{RegOp}
use Rattle.rv_word.specs.declared.instr.RegOp.TheVariants as reg
use Rattle.rv_word.specs.declared.instr.RegOp32.{RegOp32}
use Rattle.rv_word.specs.declared.instr.RegOp32.TheVariants as reg32
use Rattle.rv_word.specs.declared.instr.ShiftOp.{ShiftOp}
use Rattle.rv_word.specs.declared.instr.ShiftOp.TheVariants as shift
use Rattle.rv_word.specs.declared.instr.StoreOp.{StoreOp}
use Rattle.rv_word.specs.declared.instr.StoreOp.TheVariants as store
use Rattle.rv_asm.specs.Bytes.{is_name_byte}
use Rattle.rv_asm.specs.Operands.{alone, three_registers, register_number, registers_number, register_memory, register_pointer, registers_pointer, register_name, registers_name}
use Rattle.rv_asm.specs.Statements.{◌⇒◌, Found, each, plain_forms, named_forms, operation}
use Rattle.rv_asm.specs.declared.statement.Statement.{Statement}
use Rattle.rv_asm.specs.declared.statement.Statement.TheVariants as the
use Rattle.disassembler.specs.Texts.{mnemonic}

-- a statement without a name
abbrev pub beside : Statement → Found
beside statement = (statement, [])

-- the form of the instruction's operation
abbrev pub form_of : Instr → List ℕ → Option Found
form_of (Lui rd imm) = (register_number ⇒ λ r. the.Numbered (Lui r.0 0) r.1) ⇒ beside
form_of (Auipc rd imm) = (register_number ⇒ λ r. the.Numbered (Auipc r.0 0) r.1) ⇒ beside
form_of (Jal rd offset) = register_name ⇒ λ r. (the.Jump (Jal r.0 0), r.1)
form_of (Jalr rd rs1 offset) = (register_memory ⇒ λ r. the.Numbered (Jalr r.0 r.2 0) r.1) ⇒ beside
form_of (Branch op rs1 rs2 offset) = registers_name ⇒ λ r. (the.Jump (Branch op r.0 r.1 0), r.2)
form_of (Load op rd rs1 offset) = (register_memory ⇒ λ r. the.Numbered (Load op r.0 r.2 0) r.1) ⇒ beside
form_of (Store op rs1 rs2 offset) = (register_memory ⇒ λ r. the.Numbered (Store op r.2 r.0 0) r.1) ⇒ beside
form_of (OpImm op rd rs1 imm) = (registers_number ⇒ λ r. the.Numbered (OpImm op r.0 r.1 0) r.2) ⇒ beside
form_of (ShiftImm op rd rs1 by) = (registers_number ⇒ λ r. the.Numbered (ShiftImm op r.0 r.1 0) r.2) ⇒ beside
form_of (Addiw rd rs1 imm) = (registers_number ⇒ λ r. the.Numbered (Addiw r.0 r.1 0) r.2) ⇒ beside
form_of (ShiftImm32 op rd rs1 by) = (registers_number ⇒ λ r. the.Numbered (ShiftImm32 op r.0 r.1 0) r.2) ⇒ beside
form_of (Op op rd rs1 rs2) = (three_registers ⇒ λ r. the.Instruction (Op op r.0 r.1 r.2)) ⇒ beside
form_of (Op32 op rd rs1 rs2) = (three_registers ⇒ λ r. the.Instruction (Op32 op r.0 r.1 r.2)) ⇒ beside
form_of (Fence rd rs1 high) = alone (the.Instruction (Fence 0 0 0x0ff)) ⇒ beside
form_of Ecall = alone (the.Instruction Ecall) ⇒ beside
form_of Ebreak = alone (the.Instruction Ebreak) ⇒ beside
form_of (Lr width rd rs1 order) = (register_pointer ⇒ λ r. the.Instruction (Lr width r.0 r.1 0)) ⇒ beside
form_of (Sc width rd rs1 rs2 order) = (registers_pointer ⇒ λ r. the.Instruction (Sc width r.0 r.2 r.1 0)) ⇒ beside
form_of (Amo op width rd rs1 rs2 order) = (registers_pointer ⇒ λ r. the.Instruction (Amo op width r.0 r.2 r.1 0)) ⇒ beside

-- the assembler has this form under the name, and the name is a word
pub record HasForm (i : Instr) : Type 0 where
  pub form : (text : List ℕ) → operation (mnemonic i) text ≡ form_of i text
  pub word : (list_all is_name_byte (mnemonic i) && nat_lt 0 (length (mnemonic i))) ≡ true

branch_form : (op : BranchOp) (rs1 rs2 offset : ℕ) → HasForm (Branch op rs1 rs2 offset)
unfolding operation each plain_forms named_forms
branch_form branch.Beq rs1 rs2 offset = record { form = λ text. refl; word = refl }
branch_form branch.Bne rs1 rs2 offset = record { form = λ text. refl; word = refl }
branch_form branch.Blt rs1 rs2 offset = record { form = λ text. refl; word = refl }
branch_form branch.Bge rs1 rs2 offset = record { form = λ text. refl; word = refl }
branch_form branch.Bltu rs1 rs2 offset = record { form = λ text. refl; word = refl }
branch_form branch.Bgeu rs1 rs2 offset = record { form = λ text. refl; word = refl }

load_form : (op : LoadOp) (rd rs1 offset : ℕ) → HasForm (Load op rd rs1 offset)
unfolding operation each plain_forms named_forms
load_form load.Lb rd rs1 offset = record { form = λ text. refl; word = refl }
load_form load.Lh rd rs1 offset = record { form = λ text. refl; word = refl }
load_form load.Lw rd rs1 offset = record { form = λ text. refl; word = refl }
load_form load.Ld rd rs1 offset = record { form = λ text. refl; word = refl }
load_form load.Lbu rd rs1 offset = record { form = λ text. refl; word = refl }
load_form load.Lhu rd rs1 offset = record { form = λ text. refl; word = refl }
load_form load.Lwu rd rs1 offset = record { form = λ text. refl; word = refl }

store_form : (op : StoreOp) (rs1 rs2 offset : ℕ) → HasForm (Store op rs1 rs2 offset)
unfolding operation each plain_forms named_forms
store_form store.Sb rs1 rs2 offset = record { form = λ text. refl; word = refl }
store_form store.Sh rs1 rs2 offset = record { form = λ text. refl; word = refl }
store_form store.Sw rs1 rs2 offset = record { form = λ text. refl; word = refl }
store_form store.Sd rs1 rs2 offset = record { form = λ text. refl; word = refl }

immediate_form : (op : ImmOp) (rd rs1 imm : ℕ) → HasForm (OpImm op rd rs1 imm)
unfolding operation each plain_forms named_forms
immediate_form imm.Addi rd rs1 imm = record { form = λ text. refl; word = refl }
immediate_form imm.Slti rd rs1 imm = record { form = λ text. refl; word = refl }
immediate_form imm.Sltiu rd rs1 imm = record { form = λ text. refl; word = refl }
immediate_form imm.Xori rd rs1 imm = record { form = λ text. refl; word = refl }
immediate_form imm.Ori rd rs1 imm = record { form = λ text. refl; word = refl }
immediate_form imm.Andi rd rs1 imm = record { form = λ text. refl; word = refl }

shift_form : (op : ShiftOp) (rd rs1 by : ℕ) → HasForm (ShiftImm op rd rs1 by)
unfolding operation each plain_forms named_forms
shift_form shift.Sll rd rs1 by = record { form = λ text. refl; word = refl }
shift_form shift.Srl rd rs1 by = record { form = λ text. refl; word = refl }
shift_form shift.Sra rd rs1 by = record { form = λ text. refl; word = refl }

shift_32_form : (op : ShiftOp) (rd rs1 by : ℕ) → HasForm (ShiftImm32 op rd rs1 by)
unfolding operation each plain_forms named_forms
shift_32_form shift.Sll rd rs1 by = record { form = λ text. refl; word = refl }
shift_32_form shift.Srl rd rs1 by = record { form = λ text. refl; word = refl }
shift_32_form shift.Sra rd rs1 by = record { form = λ text. refl; word = refl }

register_form : (op : RegOp) (rd rs1 rs2 : ℕ) → HasForm (Op op rd rs1 rs2)
unfolding operation each plain_forms named_forms
register_form reg.Add rd rs1 rs2 = record { form = λ text. refl; word = refl }
register_form reg.Sll rd rs1 rs2 = record { form = λ text. refl; word = refl }
register_form reg.Slt rd rs1 rs2 = record { form = λ text. refl; word = refl }
register_form reg.Sltu rd rs1 rs2 = record { form = λ text. refl; word = refl }
register_form reg.Xor rd rs1 rs2 = record { form = λ text. refl; word = refl }
register_form reg.Srl rd rs1 rs2 = record { form = λ text. refl; word = refl }
register_form reg.Or rd rs1 rs2 = record { form = λ text. refl; word = refl }
register_form reg.And rd rs1 rs2 = record { form = λ text. refl; word = refl }
register_form reg.Sub rd rs1 rs2 = record { form = λ text. refl; word = refl }
register_form reg.Sra rd rs1 rs2 = record { form = λ text. refl; word = refl }
register_form reg.Mul rd rs1 rs2 = record { form = λ text. refl; word = refl }
register_form reg.Mulh rd rs1 rs2 = record { form = λ text. refl; word = refl }
register_form reg.Mulhsu rd rs1 rs2 = record { form = λ text. refl; word = refl }
register_form reg.Mulhu rd rs1 rs2 = record { form = λ text. refl; word = refl }
register_form reg.Div rd rs1 rs2 = record { form = λ text. refl; word = refl }
register_form reg.Divu rd rs1 rs2 = record { form = λ text. refl; word = refl }
register_form reg.Rem rd rs1 rs2 = record { form = λ text. refl; word = refl }
register_form reg.Remu rd rs1 rs2 = record { form = λ text. refl; word = refl }

register_32_form : (op : RegOp32) (rd rs1 rs2 : ℕ) → HasForm (Op32 op rd rs1 rs2)
unfolding operation each plain_forms named_forms
register_32_form reg32.Addw rd rs1 rs2 = record { form = λ text. refl; word = refl }
register_32_form reg32.Sllw rd rs1 rs2 = record { form = λ text. refl; word = refl }
register_32_form reg32.Srlw rd rs1 rs2 = record { form = λ text. refl; word = refl }
register_32_form reg32.Subw rd rs1 rs2 = record { form = λ text. refl; word = refl }
register_32_form reg32.Sraw rd rs1 rs2 = record { form = λ text. refl; word = refl }
register_32_form reg32.Mulw rd rs1 rs2 = record { form = λ text. refl; word = refl }
register_32_form reg32.Divw rd rs1 rs2 = record { form = λ text. refl; word = refl }
register_32_form reg32.Divuw rd rs1 rs2 = record { form = λ text. refl; word = refl }
register_32_form reg32.Remw rd rs1 rs2 = record { form = λ text. refl; word = refl }
register_32_form reg32.Remuw rd rs1 rs2 = record { form = λ text. refl; word = refl }

lr_form : (op : AtomicWidth) (rd rs1 order : ℕ) → HasForm (Lr op rd rs1 order)
unfolding operation each plain_forms named_forms
lr_form width.Word rd rs1 order = record { form = λ text. refl; word = refl }
lr_form width.Doubleword rd rs1 order = record { form = λ text. refl; word = refl }

sc_form : (op : AtomicWidth) (rd rs1 rs2 order : ℕ) → HasForm (Sc op rd rs1 rs2 order)
unfolding operation each plain_forms named_forms
sc_form width.Word rd rs1 rs2 order = record { form = λ text. refl; word = refl }
sc_form width.Doubleword rd rs1 rs2 order = record { form = λ text. refl; word = refl }

amo_word_form : (op : AmoOp) (rd rs1 rs2 order : ℕ) → HasForm (Amo op width.Word rd rs1 rs2 order)
unfolding operation each plain_forms named_forms
amo_word_form amo.Swap rd rs1 rs2 order = record { form = λ text. refl; word = refl }
amo_word_form amo.Add rd rs1 rs2 order = record { form = λ text. refl; word = refl }
amo_word_form amo.Xor rd rs1 rs2 order = record { form = λ text. refl; word = refl }
amo_word_form amo.And rd rs1 rs2 order = record { form = λ text. refl; word = refl }
amo_word_form amo.Or rd rs1 rs2 order = record { form = λ text. refl; word = refl }
amo_word_form amo.Min rd rs1 rs2 order = record { form = λ text. refl; word = refl }
amo_word_form amo.Max rd rs1 rs2 order = record { form = λ text. refl; word = refl }
amo_word_form amo.Minu rd rs1 rs2 order = record { form = λ text. refl; word = refl }
amo_word_form amo.Maxu rd rs1 rs2 order = record { form = λ text. refl; word = refl }

amo_doubleword_form : (op : AmoOp) (rd rs1 rs2 order : ℕ) → HasForm (Amo op width.Doubleword rd rs1 rs2 order)
unfolding operation each plain_forms named_forms
amo_doubleword_form amo.Swap rd rs1 rs2 order = record { form = λ text. refl; word = refl }
amo_doubleword_form amo.Add rd rs1 rs2 order = record { form = λ text. refl; word = refl }
amo_doubleword_form amo.Xor rd rs1 rs2 order = record { form = λ text. refl; word = refl }
amo_doubleword_form amo.And rd rs1 rs2 order = record { form = λ text. refl; word = refl }
amo_doubleword_form amo.Or rd rs1 rs2 order = record { form = λ text. refl; word = refl }
amo_doubleword_form amo.Min rd rs1 rs2 order = record { form = λ text. refl; word = refl }
amo_doubleword_form amo.Max rd rs1 rs2 order = record { form = λ text. refl; word = refl }
amo_doubleword_form amo.Minu rd rs1 rs2 order = record { form = λ text. refl; word = refl }
amo_doubleword_form amo.Maxu rd rs1 rs2 order = record { form = λ text. refl; word = refl }

pub form_is : (i : Instr) → HasForm i
unfolding operation each plain_forms named_forms
form_is (Lui rd imm) = record { form = λ text. refl; word = refl }
form_is (Auipc rd imm) = record { form = λ text. refl; word = refl }
form_is (Jal rd offset) = record { form = λ text. refl; word = refl }
form_is (Jalr rd rs1 offset) = record { form = λ text. refl; word = refl }
form_is (Branch op rs1 rs2 offset) = branch_form op rs1 rs2 offset
form_is (Load op rd rs1 offset) = load_form op rd rs1 offset
form_is (Store op rs1 rs2 offset) = store_form op rs1 rs2 offset
form_is (OpImm op rd rs1 imm) = immediate_form op rd rs1 imm
form_is (ShiftImm op rd rs1 by) = shift_form op rd rs1 by
form_is (Addiw rd rs1 imm) = record { form = λ text. refl; word = refl }
form_is (ShiftImm32 op rd rs1 by) = shift_32_form op rd rs1 by
form_is (Op op rd rs1 rs2) = register_form op rd rs1 rs2
form_is (Op32 op rd rs1 rs2) = register_32_form op rd rs1 rs2
form_is (Fence rd rs1 high) = record { form = λ text. refl; word = refl }
form_is Ecall = record { form = λ text. refl; word = refl }
form_is Ebreak = record { form = λ text. refl; word = refl }
form_is (Lr op rd rs1 order) = lr_form op rd rs1 order
form_is (Sc op rd rs1 rs2 order) = sc_form op rd rs1 rs2 order
form_is (Amo op width.Word rd rs1 rs2 order) = amo_word_form op rd rs1 rs2 order
form_is (Amo op width.Doubleword rd rs1 rs2 order) = amo_doubleword_form op rd rs1 rs2 order
