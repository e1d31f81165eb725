-- For proofs alone: the instructions that the code's forms make, and how it finds a form.
use Rattle.std.specs.Prelude.{ℕ, ◌==◌, Bool, false, if◌then◌else◌, Option, Some, None, List, [], ◌∷◌}
use Rattle.std.specs.Option.{option_map_or}
use Rattle.rv_word.specs.Words.{word_of}
use Rattle.rv_word.specs.declared.instr.Instr.{Instr}
use Rattle.rv_word.specs.declared.instr.Instr.TheVariants.{Lui, Auipc, Jal, Jalr, Branch, Load, Store, OpImm, ShiftImm, Addiw, ShiftImm32, Op, Op32, Fence, Ecall, Ebreak, Lr, Sc, Amo}
use Rattle.rv_asm.specs.declared.named.NamedForm.{NamedForm}
use Rattle.rv_asm.specs.declared.named.NamedForm.TheVariants as named
use Rattle.rv_asm.specs.declared.plain_forms.PlainForm.{PlainForm}
use Rattle.rv_asm.specs.declared.plain_forms.PlainForm.TheVariants as plain
use Rattle.rv_asm.specs.declared.statement.Statement.{Statement}
use Rattle.rv_asm.specs.declared.statement.Statement.TheVariants as the

-- the instruction with 0 for its registers and numbers
abbrev pub bare : Instr → Instr
bare (Lui rd imm) = Lui 0 0
bare (Auipc rd imm) = Auipc 0 0
bare (Jal rd offset) = Jal 0 0
bare (Jalr rd rs1 offset) = Jalr 0 0 0
bare (Branch op rs1 rs2 offset) = Branch op 0 0 0
bare (Load op rd rs1 offset) = Load op 0 0 0
bare (Store op rs1 rs2 offset) = Store op 0 0 0
bare (OpImm op rd rs1 imm) = OpImm op 0 0 0
bare (ShiftImm op rd rs1 by) = ShiftImm op 0 0 0
bare (Addiw rd rs1 imm) = Addiw 0 0 0
bare (ShiftImm32 op rd rs1 by) = ShiftImm32 op 0 0 0
bare (Op op rd rs1 rs2) = Op op 0 0 0
bare (Op32 op rd rs1 rs2) = Op32 op 0 0 0
bare (Fence rd rs1 high) = Fence 0 0 0
bare Ecall = Ecall
bare Ebreak = Ebreak
bare (Lr width rd rs1 order) = Lr width 0 0 0
bare (Sc width rd rs1 rs2 order) = Sc width 0 0 0 0
bare (Amo op width rd rs1 rs2 order) = Amo op width 0 0 0 0

-- that of a form without operands, but for those that other forms make too
abbrev pub fixed_instr : Statement → Option Instr
fixed_instr (the.Instruction (Fence rd rs1 high)) = Some (Fence 0 0 0)
fixed_instr (the.Instruction Ecall) = Some Ecall
fixed_instr (the.Instruction Ebreak) = Some Ebreak
fixed_instr statement = None

-- that of a form, with 0 for its registers and numbers
abbrev pub plain_instr : PlainForm → Option Instr
plain_instr (plain.Fixed statement) = fixed_instr statement
plain_instr (plain.Register op) = Some (Op op 0 0 0)
plain_instr (plain.Register32 op) = Some (Op32 op 0 0 0)
plain_instr (plain.Immediate op) = Some (OpImm op 0 0 0)
plain_instr (plain.Shift op) = Some (ShiftImm op 0 0 0)
plain_instr (plain.Shift32 op) = Some (ShiftImm32 op 0 0 0)
plain_instr (plain.Load op) = Some (Load op 0 0 0)
plain_instr (plain.Store op) = Some (Store op 0 0 0)
plain_instr (plain.Reserve width) = Some (Lr width 0 0 0)
plain_instr (plain.Conditional width) = Some (Sc width 0 0 0 0)
plain_instr (plain.Amo op width) = Some (Amo op width 0 0 0 0)
plain_instr plain.Addiw = Some (Addiw 0 0 0)
plain_instr plain.Jalr = Some (Jalr 0 0 0)
plain_instr plain.Lui = Some (Lui 0 0)
plain_instr plain.Auipc = Some (Auipc 0 0)
plain_instr form = None

abbrev pub named_instr : NamedForm → Option Instr
named_instr (named.Branch op) = Some (Branch op 0 0 0)
named_instr named.Jal = Some (Jal 0 0)
named_instr form = None

-- whether it has this word
abbrev pub has_word : Option Instr → ℕ → Bool
has_word i word = option_map_or (λ made. word_of made == word) i false

-- the name of the first row whose form makes this word
abbrev pub name_with : {A : Type 0} → (A → Option Instr) → ℕ → List (List ℕ × A) → List ℕ
name_with made word [] = []
name_with made word (row ∷ rows) = if has_word (made row.1) word then row.0 else name_with made word rows

-- an access to memory, or a jump by a register
abbrev pub IsAccess : Instr → Type 0
IsAccess (Jalr rd rs1 offset) = Unit {0}
IsAccess (Load op rd rs1 offset) = Unit {0}
IsAccess (Store op rs1 rs2 offset) = Unit {0}
IsAccess (Lr width rd rs1 order) = Unit {0}
IsAccess (Sc width rd rs1 rs2 order) = Unit {0}
IsAccess (Amo op width rd rs1 rs2 order) = Unit {0}
IsAccess i = ⊥
