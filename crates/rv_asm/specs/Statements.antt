-- The forms of statements: a table of mnemonics, the operands of each, and the statement that they make.
use Rattle.std.specs.Prelude.{ℕ, Option, List, [], ◌∷◌, ◌++◌, map, codes}
use Rattle.std.specs.List.{flat_map}
use Rattle.std.specs.Option.{option_and_then, option_map}
use Rattle.rv_word.specs.declared.instr.AtomicWidth.{AtomicWidth}
use Rattle.rv_word.specs.declared.instr.ImmOp.TheVariants as imm
use Rattle.rv_word.specs.declared.instr.Instr.TheVariants as instr
use Rattle.rv_asm.specs.Registers.{named}
use Rattle.rv_asm.specs.Operands.{alone, one_register, two_registers, three_registers, register_number, registers_number, register_memory, register_pointer, registers_pointer, register_name, registers_name, one_number, one_name, name_number, one_string}
use Rattle.rv_asm.specs.Operations.{register_ops, register_ops_32, immediate_ops, shift_ops, shift_ops_32, load_ops, store_ops, branch_ops, zero_branch_ops, amo_ops, atomic_widths}
use Rattle.rv_asm.specs.declared.statement.ValueWidth.{ValueWidth}
use Rattle.rv_asm.specs.declared.statement.ValueWidth.TheVariants as width
use Rattle.rv_asm.specs.declared.statement.Statement.{Statement}
use Rattle.rv_asm.specs.declared.statement.Statement.TheVariants as the

-- ---- tables

-- a mnemonic, and what is made of the text after it, if this has the shape of its operands
abbrev pub Form : Type 0 → Type 0
Form A = List ℕ × (List ℕ → Option A)

infixr 5 ◌⇒◌
-- what is made of operands of this shape
abbrev pub ◌⇒◌ : {A B : Type 0} → (List ℕ → Option A) → (A → B) → List ℕ → Option B
(shape ⇒ made) text = option_map made (shape text)

-- a row for each of these operations
unfoldable pub each : {A B : Type 0} → List (List ℕ × A) → (A → List ℕ → Option B) → List (Form B)
each ops form = map (λ op. (op.0, form op.1)) ops

-- the rows of all groups
abbrev pub joined : {A : Type 0} → List (List (Form A)) → List (Form A)
joined [] = []
joined (group ∷ groups) = group ++ joined groups

-- what the row of this name makes of the text after the name
abbrev pub made_by : {A : Type 0} → List (Form A) → List ℕ → List ℕ → Option A
made_by forms name text = option_and_then (λ form. form text) (named name forms)

-- ---- statements without a name or a string

-- what no operands follow
abbrev pub fixed : List (List ℕ × Statement)
fixed =
    (codes "ebreak", the.Instruction instr.Ebreak) ∷ (codes "fence", the.Instruction (instr.Fence 0 0 0x0ff))
    ∷ (codes "ecall", the.Instruction instr.Ecall)
    ∷ (codes "nop", the.Instruction (instr.OpImm imm.Addi 0 0 0)) ∷ (codes "ret", the.Instruction (instr.Jalr 0 1 0))
    ∷ (codes ".text", the.Text) ∷ (codes ".data", the.Data) ∷ (codes ".end", the.End) ∷ []

-- AMOs of a width, by their names before it
abbrev pub amos : AtomicWidth → List (Form Statement)
amos size = each amo_ops (λ op. registers_pointer ⇒ λ r. the.Instruction (instr.Amo op size r.0 r.2 r.1 0))

-- atomic accesses of a width, by their names before it
abbrev pub accesses : AtomicWidth → List (Form Statement)
accesses size =
    (codes "lr", register_pointer ⇒ λ r. the.Instruction (instr.Lr size r.0 r.1 0))
    ∷ (codes "sc", registers_pointer ⇒ λ r. the.Instruction (instr.Sc size r.0 r.2 r.1 0))
    ∷ amos size

-- an atomic access has its width after its name
abbrev pub atomics : List (Form Statement)
atomics = flat_map (λ size. map (λ form. (form.0 ++ size.0, form.1)) (accesses size.1)) atomic_widths

-- the width of a value
abbrev pub value_widths : List (List ℕ × ValueWidth)
value_widths =
    (codes ".dword", width.Doubleword) ∷ (codes ".byte", width.Byte) ∷ (codes ".half", width.Half)
    ∷ (codes ".word", width.Word) ∷ []

-- what has a row of its own; `mv rd, rs` is `addi rd, rs, 0`, and `jr rs` is `jalr zero, 0(rs)`
abbrev pub singles : List (Form Statement)
singles =
    (codes ".align", one_number ⇒ λ n. the.Align n)
    ∷ (codes "addiw", registers_number ⇒ λ r. the.Numbered (instr.Addiw r.0 r.1 0) r.2)
    ∷ (codes "jalr", register_memory ⇒ λ r. the.Numbered (instr.Jalr r.0 r.2 0) r.1)
    ∷ (codes "lui", register_number ⇒ λ r. the.Numbered (instr.Lui r.0 0) r.1)
    ∷ (codes "auipc", register_number ⇒ λ r. the.Numbered (instr.Auipc r.0 0) r.1)
    ∷ (codes "li", register_number ⇒ λ r. the.LoadNumber r.0 r.1)
    ∷ (codes "mv", two_registers ⇒ λ r. the.Instruction (instr.OpImm imm.Addi r.0 r.1 0))
    ∷ (codes "jr", one_register ⇒ λ base. the.Instruction (instr.Jalr 0 base 0))
    ∷ (codes ".zero", one_number ⇒ λ n. the.Zeros n)
    ∷ []

-- the rows, by groups
unfoldable pub plain_forms : List (List (Form Statement))
plain_forms =
    each fixed alone
    ∷ each register_ops (λ op. three_registers ⇒ λ r. the.Instruction (instr.Op op r.0 r.1 r.2))
    ∷ each register_ops_32 (λ op. three_registers ⇒ λ r. the.Instruction (instr.Op32 op r.0 r.1 r.2))
    ∷ each immediate_ops (λ op. registers_number ⇒ λ r. the.Numbered (instr.OpImm op r.0 r.1 0) r.2)
    ∷ each shift_ops (λ op. registers_number ⇒ λ r. the.Numbered (instr.ShiftImm op r.0 r.1 0) r.2)
    ∷ each shift_ops_32 (λ op. registers_number ⇒ λ r. the.Numbered (instr.ShiftImm32 op r.0 r.1 0) r.2)
    ∷ each load_ops (λ op. register_memory ⇒ λ r. the.Numbered (instr.Load op r.0 r.2 0) r.1)
    ∷ each store_ops (λ op. register_memory ⇒ λ r. the.Numbered (instr.Store op r.2 r.0 0) r.1)
    ∷ atomics
    ∷ singles
    ∷ each value_widths (λ size. one_number ⇒ λ n. the.Value size n)
    ∷ []

-- ---- statements with a name or a string

-- a statement with the name or the string that it has, else with nothing
abbrev pub Found : Type 0
Found = Statement × List ℕ

-- what a name alone follows
abbrev pub before_name : List (List ℕ × Statement)
before_name =
    (codes ".module", the.Module) ∷ (codes "j", the.Jump (instr.Jal 0 0)) ∷ (codes "call", the.Jump (instr.Jal 1 0))
    ∷ (codes ".proc", the.Procedure) ∷ []

-- what has a row of its own
abbrev pub named_singles : List (Form Found)
named_singles =
    (codes ".ascii", one_string ⇒ λ bytes. (the.Ascii, bytes))
    ∷ (codes ".object", name_number ⇒ λ r. (the.Object r.1, r.0))
    ∷ (codes "jal", register_name ⇒ λ r. (the.Jump (instr.Jal r.0 0), r.1))
    ∷ (codes "la", register_name ⇒ λ r. (the.LoadAddress r.0, r.1))
    ∷ []

-- the rows, by groups
unfoldable pub named_forms : List (List (Form Found))
named_forms =
    each branch_ops (λ op. registers_name ⇒ λ r. (the.Jump (instr.Branch op r.0 r.1 0), r.2))
    ∷ each zero_branch_ops (λ op. register_name ⇒ λ r. (the.Jump (instr.Branch op r.0 0 0), r.1))
    ∷ each before_name (λ statement. one_name ⇒ λ name. (statement, name))
    ∷ named_singles
    ∷ []

-- ---- all

-- the whole table
abbrev pub forms : List (Form Found)
forms = each (joined plain_forms) (λ form. form ⇒ λ statement. (statement, [])) ++ joined named_forms

-- a statement by its name and what stands after the name
unfoldable pub operation : List ℕ → List ℕ → Option Found
operation name text = made_by forms name text
