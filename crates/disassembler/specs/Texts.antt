-- The text of a word at an address, as the assembler reads it.
use Rattle.std.specs.Prelude.{ℕ, ◌+◌, ◌*◌, ◌==◌, ◌&&◌, Bool, true, if◌then◌else◌, Option, Some, None, List, [], ◌++◌, codes}
use Rattle.pn_types.specs.Texts.{address}
use Rattle.rv_word.specs.Codes.{branch_code, load_code, store_code, imm_code, reg_codes, reg_32_codes, amo_code, width_code}
use Rattle.rv_word.specs.Names.{target_of}
use Rattle.rv_word.specs.Table.{decode_of}
use Rattle.rv_word.specs.Words.{shift_code, shift_top}
use Rattle.rv_word.specs.declared.instr.AtomicWidth.{AtomicWidth}
use Rattle.rv_word.specs.declared.instr.Instr.{Instr}
use Rattle.rv_word.specs.declared.instr.Instr.TheVariants.{Lui, Auipc, Jal, Jalr, Branch, Load, Store, OpImm, ShiftImm, Addiw, ShiftImm32, Op, Op32, Fence, Ecall, Ebreak, Lr, Sc, Amo}
use Rattle.rv_asm.specs.Operations.{register_ops, register_ops_32, immediate_ops, shift_ops, shift_ops_32, load_ops, store_ops, branch_ops, amo_ops, atomic_widths}
use Rattle.rv_asm.specs.SecondPass.{reaches}
use Rattle.disassembler.specs.Operands.{name_by, operands_of, operands_text, target}

-- what stands behind the name of an atomic access
abbrev pub width_name : AtomicWidth → List ℕ
width_name width = name_by width_code width atomic_widths

-- the name of the operation, in the assembler's tables
abbrev pub mnemonic : Instr → List ℕ
mnemonic (Lui rd imm) = codes "lui"
mnemonic (Auipc rd imm) = codes "auipc"
mnemonic (Jal rd offset) = codes "jal"
mnemonic (Jalr rd rs1 offset) = codes "jalr"
mnemonic (Branch op rs1 rs2 offset) = name_by branch_code op branch_ops
mnemonic (Load op rd rs1 offset) = name_by load_code op load_ops
mnemonic (Store op rs1 rs2 offset) = name_by store_code op store_ops
mnemonic (OpImm op rd rs1 imm) = name_by imm_code op immediate_ops
mnemonic (ShiftImm op rd rs1 by) = name_by (λ o. shift_code o + shift_top o) op shift_ops
mnemonic (Addiw rd rs1 imm) = codes "addiw"
mnemonic (ShiftImm32 op rd rs1 by) = name_by (λ o. shift_code o + shift_top o) op shift_ops_32
mnemonic (Op op rd rs1 rs2) = name_by (λ o. (reg_codes o).0 * 8 + (reg_codes o).1) op register_ops
mnemonic (Op32 op rd rs1 rs2) = name_by (λ o. (reg_32_codes o).0 * 8 + (reg_32_codes o).1) op register_ops_32
mnemonic (Fence rd rs1 high) = codes "fence"
mnemonic Ecall = codes "ecall"
mnemonic Ebreak = codes "ebreak"
mnemonic (Lr width rd rs1 order) = codes "lr" ++ width_name width
mnemonic (Sc width rd rs1 rs2 order) = codes "sc" ++ width_name width
mnemonic (Amo op width rd rs1 rs2 order) = name_by amo_code op amo_ops ++ width_name width

-- Whether the assembler has a form for the instruction at the address: a jump or branch has to reach its target, `fence` is
-- that of all accesses, and no form has the bits of the order.
abbrev pub is_spelled : ℕ → Instr → Bool
is_spelled at (Jal rd offset) = reaches (Jal rd offset) at (target at offset)
is_spelled at (Branch op rs1 rs2 offset) = reaches (Branch op rs1 rs2 offset) at (target at offset)
is_spelled at (Fence rd rs1 high) = (rd == 0) && ((rs1 == 0) && (high == 0x0ff))
is_spelled at (Lr width rd rs1 order) = order == 0
is_spelled at (Sc width rd rs1 rs2 order) = order == 0
is_spelled at (Amo op width rd rs1 rs2 order) = order == 0
is_spelled at i = true

-- the instruction at an address, and a jump or branch with the name of its target
abbrev pub form_text : ℕ → Instr → List ℕ
form_text at i = mnemonic i ++ operands_text (codes " ") (operands_of at i)

-- the value of a word
abbrev pub value_text : ℕ → List ℕ
value_text word = codes ".word " ++ address word

abbrev pub text_by : ℕ → ℕ → Option Instr → List ℕ
text_by at word None = value_text word
text_by at word (Some i) = if is_spelled at i then form_text at i else value_text word

-- the word at an address: its instruction, if the assembler has a form for it, and else its value
unfoldable pub instruction_text : ℕ → ℕ → List ℕ
instruction_text at word = text_by at word (decode_of word)

abbrev pub target_by : ℕ → Option Instr → Option ℕ
target_by at None = None
target_by at (Some i) = if is_spelled at i then target_of i at else None

-- the address whose name stands in the text of the word at an address, if one does
abbrev pub named_target : ℕ → ℕ → Option ℕ
named_target at word = target_by at (decode_of word)

-- ---- the order of an atomic access

-- the bits of the order, of which 2 is `aq` and 1 `rl`; other instructions have none
abbrev pub order_of : Instr → ℕ
order_of (Lr width rd rs1 order) = order
order_of (Sc width rd rs1 rs2 order) = order
order_of (Amo op width rd rs1 rs2 order) = order
order_of i = 0

abbrev pub order_name : ℕ → List ℕ
order_name order = if order == 1 then codes ".rl" else if order == 2 then codes ".aq" else codes ".aqrl"

-- an access with an order, which the assembler has no form for, as a comment
abbrev pub order_comment : Instr → List ℕ
order_comment i =
    if order_of i == 0 then []
    else codes "  # " ++ (mnemonic i ++ (order_name (order_of i) ++ operands_text (codes " ") (operands_of 0 i)))

abbrev pub comment_by : Option Instr → List ℕ
comment_by None = []
comment_by (Some i) = order_comment i

-- The text of the word at an address, and behind it what it is where it is an access with an order.
unfoldable pub word_text : ℕ → ℕ → List ℕ
word_text at word = instruction_text at word ++ comment_by (decode_of word)
