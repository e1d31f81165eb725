-- The table of instructions: which word is which.
use Rattle.std.specs.Prelude.{ℕ, ◌/◌, ◌%◌, ◌^◌, ◌==◌, if◌then◌else◌, Option, Some, None, List, [], ◌∷◌}
use Rattle.std.specs.Option.{option_map}
use Rattle.rv_word.specs.Codes.{branch_op_of, load_op_of, store_op_of, imm_op_of, reg_op_of, reg_op_32_of, width_of, amo_op_of}
use Rattle.rv_word.specs.Fields.{opcode_of, rd_of, funct3_of, rs1_of, rs2_of, funct7_of, high12_of, i_imm_of, s_imm_of, b_imm_of, u_imm_of, j_imm_of}
use Rattle.rv_word.specs.declared.instr.ShiftOp.{ShiftOp}
use Rattle.rv_word.specs.declared.instr.ShiftOp.TheVariants as shift
use Rattle.rv_word.specs.declared.instr.AmoOp.{AmoOp}
use Rattle.rv_word.specs.declared.instr.AtomicWidth.{AtomicWidth}
use Rattle.rv_word.specs.declared.instr.Instr.{Instr}
use Rattle.rv_word.specs.declared.instr.Instr.TheVariants.{Lui, Auipc, Jal, Jalr, Branch, Load, Store, OpImm, ShiftImm, Addiw, ShiftImm32, Op, Op32, Fence, Ecall, Ebreak, Lr, Sc, Amo}

-- The row whose number is code.
abbrev pub row : {A : Type 0} → ℕ → List (ℕ × A) → Option A
row code [] = None
row code (r ∷ rs) = if code == r.0 then Some r.1 else row code rs

abbrev pub lui_of : ℕ → Option Instr
lui_of w = Some (Lui (rd_of w) (u_imm_of w))

abbrev pub auipc_of : ℕ → Option Instr
auipc_of w = Some (Auipc (rd_of w) (u_imm_of w))

abbrev pub jal_of : ℕ → Option Instr
jal_of w = Some (Jal (rd_of w) (j_imm_of w))

abbrev pub jalr_of : ℕ → Option Instr
jalr_of w = if funct3_of w == 0 then Some (Jalr (rd_of w) (rs1_of w) (i_imm_of w)) else None

abbrev pub branch_of : ℕ → Option Instr
branch_of w = option_map (λ op. Branch op (rs1_of w) (rs2_of w) (b_imm_of w)) (branch_op_of (funct3_of w))

abbrev pub load_of : ℕ → Option Instr
load_of w = option_map (λ op. Load op (rd_of w) (rs1_of w) (i_imm_of w)) (load_op_of (funct3_of w))

abbrev pub store_of : ℕ → Option Instr
store_of w = option_map (λ op. Store op (rs1_of w) (rs2_of w) (s_imm_of w)) (store_op_of (funct3_of w))

abbrev pub right_shifts : ℕ → List (ℕ × ShiftOp)
right_shifts arithmetic = (0, shift.Srl) ∷ (arithmetic, shift.Sra) ∷ []

abbrev pub left_shifts : List (ℕ × ShiftOp)
left_shifts = (0, shift.Sll) ∷ []

abbrev pub right_shift_of : ℕ → ℕ → Option ShiftOp
right_shift_of arithmetic top = row top (right_shifts arithmetic)

-- the amount of a shift of 64 bits has six bits, and that of one of 32 bits five
abbrev pub shift_of : ℕ → Option ShiftOp → Option Instr
shift_of w op = option_map (λ o. ShiftImm o (rd_of w) (rs1_of w) (w / 2 ^ 20 % 64)) op

abbrev pub shift_32_of : ℕ → Option ShiftOp → Option Instr
shift_32_of w op = option_map (λ o. ShiftImm32 o (rd_of w) (rs1_of w) (rs2_of w)) op

abbrev pub op_imm_of : ℕ → Option Instr
op_imm_of w =
    if funct3_of w == 1 then shift_of w (row (w / 2 ^ 26) left_shifts)
    else if funct3_of w == 5 then shift_of w (right_shift_of 16 (w / 2 ^ 26))
    else option_map (λ op. OpImm op (rd_of w) (rs1_of w) (i_imm_of w)) (imm_op_of (funct3_of w))

abbrev pub op_imm_32_of : ℕ → Option Instr
op_imm_32_of w =
    if funct3_of w == 0 then Some (Addiw (rd_of w) (rs1_of w) (i_imm_of w))
    else if funct3_of w == 1 then shift_32_of w (row (funct7_of w) left_shifts)
    else if funct3_of w == 5 then shift_32_of w (right_shift_of 32 (funct7_of w))
    else None

abbrev pub op_of : ℕ → Option Instr
op_of w = option_map (λ op. Op op (rd_of w) (rs1_of w) (rs2_of w)) (reg_op_of (funct7_of w) (funct3_of w))

abbrev pub op_32_of : ℕ → Option Instr
op_32_of w = option_map (λ op. Op32 op (rd_of w) (rs1_of w) (rs2_of w)) (reg_op_32_of (funct7_of w) (funct3_of w))

abbrev pub fence_of : ℕ → Option Instr
fence_of w = if funct3_of w == 0 then Some (Fence (rd_of w) (rs1_of w) (high12_of w)) else None

abbrev pub system_words : List (ℕ × Instr)
system_words = (0x00000073, Ecall) ∷ (0x00100073, Ebreak) ∷ []

abbrev pub system_of : ℕ → Option Instr
system_of w = row w system_words

-- the bits aq and rl
abbrev pub order_of : ℕ → ℕ
order_of w = w / 2 ^ 25 % 4

-- LR has no second register
abbrev pub lr_of : AtomicWidth → ℕ → Option Instr
lr_of width w = if rs2_of w == 0 then Some (Lr width (rd_of w) (rs1_of w) (order_of w)) else None

abbrev pub sc_of : AtomicWidth → ℕ → Option Instr
sc_of width w = Some (Sc width (rd_of w) (rs1_of w) (rs2_of w) (order_of w))

abbrev pub amo_of : AtomicWidth → Option AmoOp → ℕ → Option Instr
amo_of width op w = option_map (λ o. Amo o width (rd_of w) (rs1_of w) (rs2_of w) (order_of w)) op

-- LR and SC have the codes 2 and 3
abbrev pub atomic_by : Option AtomicWidth → ℕ → ℕ → Option Instr
atomic_by None code w = None
atomic_by (Some width) code w = if code == 2 then lr_of width w else if code == 3 then sc_of width w else amo_of width (amo_op_of code) w

abbrev pub atomic_of : ℕ → Option Instr
atomic_of w = atomic_by (width_of (funct3_of w)) (w / 2 ^ 27) w

-- what stands under each opcode
abbrev pub opcodes : List (ℕ × (ℕ → Option Instr))
opcodes =
    (0x37, lui_of) ∷ (0x17, auipc_of) ∷ (0x6f, jal_of) ∷ (0x67, jalr_of) ∷ (0x63, branch_of) ∷ (0x03, load_of) ∷ (0x23, store_of)
    ∷ (0x13, op_imm_of) ∷ (0x1b, op_imm_32_of) ∷ (0x33, op_of) ∷ (0x3b, op_32_of) ∷ (0x0f, fence_of) ∷ (0x73, system_of)
    ∷ (0x2f, atomic_of) ∷ []

abbrev pub read_by : {A : Type 0} → Option (ℕ → Option A) → ℕ → Option A
read_by None w = None
read_by (Some f) w = f w

unfoldable pub decode_of : ℕ → Option Instr
decode_of w = read_by (row (opcode_of w) opcodes) w
