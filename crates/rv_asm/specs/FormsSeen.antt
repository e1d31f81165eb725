-- For proofs alone: what the code's forms make of the text after a name.
use Rattle.std.specs.Prelude.{ℕ, Option, List}
use Rattle.rv_word.specs.declared.instr.ImmOp.TheVariants as imm
use Rattle.rv_word.specs.declared.instr.Instr.TheVariants as instr
use Rattle.rv_asm.specs.Operands.{alone, one_register, two_registers, three_registers, register_number, registers_number, register_memory, register_pointer, registers_pointer, register_name, registers_name, one_number, one_name, name_number, one_string}
use Rattle.rv_asm.specs.Statements.{◌⇒◌, Found}
use Rattle.rv_asm.specs.declared.plain_forms.PlainForm.{PlainForm}
use Rattle.rv_asm.specs.declared.plain_forms.PlainForm.TheVariants as plain
use Rattle.rv_asm.specs.declared.named.NamedForm.{NamedForm}
use Rattle.rv_asm.specs.declared.named.NamedForm.TheVariants as named
use Rattle.rv_asm.specs.declared.statement.Statement.{Statement}
use Rattle.rv_asm.specs.declared.statement.Statement.TheVariants as the

abbrev pub plain_form : PlainForm → List ℕ → Option Statement
plain_form (plain.Fixed statement) = alone statement
plain_form (plain.Register op) = three_registers ⇒ λ r. the.Instruction (instr.Op op r.0 r.1 r.2)
plain_form (plain.Register32 op) = three_registers ⇒ λ r. the.Instruction (instr.Op32 op r.0 r.1 r.2)
plain_form (plain.Immediate op) = registers_number ⇒ λ r. the.Numbered (instr.OpImm op r.0 r.1 0) r.2
plain_form (plain.Shift op) = registers_number ⇒ λ r. the.Numbered (instr.ShiftImm op r.0 r.1 0) r.2
plain_form (plain.Shift32 op) = registers_number ⇒ λ r. the.Numbered (instr.ShiftImm32 op r.0 r.1 0) r.2
plain_form (plain.Load op) = register_memory ⇒ λ r. the.Numbered (instr.Load op r.0 r.2 0) r.1
plain_form (plain.Store op) = register_memory ⇒ λ r. the.Numbered (instr.Store op r.2 r.0 0) r.1
plain_form (plain.Reserve size) = register_pointer ⇒ λ r. the.Instruction (instr.Lr size r.0 r.1 0)
plain_form (plain.Conditional size) = registers_pointer ⇒ λ r. the.Instruction (instr.Sc size r.0 r.2 r.1 0)
plain_form (plain.Amo op size) = registers_pointer ⇒ λ r. the.Instruction (instr.Amo op size r.0 r.2 r.1 0)
plain_form plain.Align = one_number ⇒ λ n. the.Align n
plain_form plain.Addiw = registers_number ⇒ λ r. the.Numbered (instr.Addiw r.0 r.1 0) r.2
plain_form plain.Jalr = register_memory ⇒ λ r. the.Numbered (instr.Jalr r.0 r.2 0) r.1
plain_form plain.Lui = register_number ⇒ λ r. the.Numbered (instr.Lui r.0 0) r.1
plain_form plain.Auipc = register_number ⇒ λ r. the.Numbered (instr.Auipc r.0 0) r.1
plain_form plain.LoadNumber = register_number ⇒ λ r. the.LoadNumber r.0 r.1
plain_form plain.Move = two_registers ⇒ λ r. the.Instruction (instr.OpImm imm.Addi r.0 r.1 0)
plain_form plain.JumpRegister = one_register ⇒ λ base. the.Instruction (instr.Jalr 0 base 0)
plain_form plain.Zeros = one_number ⇒ λ n. the.Zeros n
plain_form (plain.Value size) = one_number ⇒ λ n. the.Value size n

abbrev pub named_form : NamedForm → List ℕ → Option Found
named_form (named.Branch op) = registers_name ⇒ λ r. (the.Jump (instr.Branch op r.0 r.1 0), r.2)
named_form (named.ZeroBranch op) = register_name ⇒ λ r. (the.Jump (instr.Branch op r.0 0 0), r.1)
named_form (named.Name statement) = one_name ⇒ λ name. (statement, name)
named_form named.Ascii = one_string ⇒ λ bytes. (the.Ascii, bytes)
named_form named.Object = name_number ⇒ λ r. (the.Object r.1, r.0)
named_form named.Jal = register_name ⇒ λ r. (the.Jump (instr.Jal r.0 0), r.1)
named_form named.LoadAddress = register_name ⇒ λ r. (the.LoadAddress r.0, r.1)
