-- Each instruction's word has 32 bits.
use Rattle.std.proofs.Common.{ℕ, ◌+◌, ◌*◌, ◌/◌, ◌%◌, ◌^◌, ◌<◌, arith}
use Rattle.rv_word.specs.declared.instr.Instr.{Instr}
use Rattle.rv_word.specs.declared.instr.Instr.TheVariants.{Lui, Auipc, Jal, Jalr, Branch, Load, Store, OpImm, ShiftImm, Addiw, ShiftImm32, Op, Op32, Fence, Ecall, Ebreak, Lr, Sc, Amo}
use Rattle.rv_word.specs.declared.instr.RegOp.{RegOp}
use Rattle.rv_word.specs.declared.instr.RegOp.TheVariants as reg
use Rattle.rv_word.specs.declared.instr.RegOp32.{RegOp32}
use Rattle.rv_word.specs.declared.instr.RegOp32.TheVariants as reg32
use Rattle.rv_word.specs.declared.instr.AmoOp.{AmoOp}
use Rattle.rv_word.specs.declared.instr.AmoOp.TheVariants as amo
use Rattle.rv_word.specs.declared.instr.AtomicWidth.{AtomicWidth}
use Rattle.rv_word.specs.declared.instr.AtomicWidth.TheVariants as width
use Rattle.rv_word.specs.declared.instr.ShiftOp.{ShiftOp}
use Rattle.rv_word.specs.declared.instr.ShiftOp.TheVariants as shift
use Rattle.rv_word.specs.Codes.{branch_code, load_code, store_code, imm_code, reg_codes, reg_32_codes, amo_code, width_code}
use Rattle.rv_word.specs.Words.{r_form, i_form, u_form, j_form, word_of as coded, shift_code, shift_top}
use Rattle.rv_asm.proofs.Scratch.{branch_small, load_small, store_small, imm_small, shift_small}

r_below : (o rd c rs1 rs2 t : ℕ) → o < 128 → c < 8 → t < 128 → r_form o rd c rs1 rs2 t < 2 ^ 32
r_below o rd c rs1 rs2 t h l k = omega arith

i_below : (o rd c rs1 n : ℕ) → o < 128 → c < 8 → i_form o rd c rs1 n < 2 ^ 32
i_below o rd c rs1 n h l = omega arith

u_below : (o rd n : ℕ) → o < 128 → u_form o rd n < 2 ^ 32
u_below o rd n h = omega arith

j_below : (o rd n : ℕ) → o < 128 → j_form o rd n < 2 ^ 32
j_below o rd n h = omega arith

top_small : (op : ShiftOp) → shift_top op < 128
top_small shift.Sll = omega arith
top_small shift.Srl = omega arith
top_small shift.Sra = omega arith

reg_small : (op : RegOp) → (reg_codes op).1 < 8
reg_small reg.Add = omega arith
reg_small reg.Sll = omega arith
reg_small reg.Slt = omega arith
reg_small reg.Sltu = omega arith
reg_small reg.Xor = omega arith
reg_small reg.Srl = omega arith
reg_small reg.Or = omega arith
reg_small reg.And = omega arith
reg_small reg.Sub = omega arith
reg_small reg.Sra = omega arith
reg_small reg.Mul = omega arith
reg_small reg.Mulh = omega arith
reg_small reg.Mulhsu = omega arith
reg_small reg.Mulhu = omega arith
reg_small reg.Div = omega arith
reg_small reg.Divu = omega arith
reg_small reg.Rem = omega arith
reg_small reg.Remu = omega arith

reg_top_small : (op : RegOp) → (reg_codes op).0 < 128
reg_top_small reg.Add = omega arith
reg_top_small reg.Sll = omega arith
reg_top_small reg.Slt = omega arith
reg_top_small reg.Sltu = omega arith
reg_top_small reg.Xor = omega arith
reg_top_small reg.Srl = omega arith
reg_top_small reg.Or = omega arith
reg_top_small reg.And = omega arith
reg_top_small reg.Sub = omega arith
reg_top_small reg.Sra = omega arith
reg_top_small reg.Mul = omega arith
reg_top_small reg.Mulh = omega arith
reg_top_small reg.Mulhsu = omega arith
reg_top_small reg.Mulhu = omega arith
reg_top_small reg.Div = omega arith
reg_top_small reg.Divu = omega arith
reg_top_small reg.Rem = omega arith
reg_top_small reg.Remu = omega arith

reg_32_small : (op : RegOp32) → (reg_32_codes op).1 < 8
reg_32_small reg32.Addw = omega arith
reg_32_small reg32.Sllw = omega arith
reg_32_small reg32.Srlw = omega arith
reg_32_small reg32.Subw = omega arith
reg_32_small reg32.Sraw = omega arith
reg_32_small reg32.Mulw = omega arith
reg_32_small reg32.Divw = omega arith
reg_32_small reg32.Divuw = omega arith
reg_32_small reg32.Remw = omega arith
reg_32_small reg32.Remuw = omega arith

reg_32_top_small : (op : RegOp32) → (reg_32_codes op).0 < 128
reg_32_top_small reg32.Addw = omega arith
reg_32_top_small reg32.Sllw = omega arith
reg_32_top_small reg32.Srlw = omega arith
reg_32_top_small reg32.Subw = omega arith
reg_32_top_small reg32.Sraw = omega arith
reg_32_top_small reg32.Mulw = omega arith
reg_32_top_small reg32.Divw = omega arith
reg_32_top_small reg32.Divuw = omega arith
reg_32_top_small reg32.Remw = omega arith
reg_32_top_small reg32.Remuw = omega arith

amo_small : (op : AmoOp) → amo_code op < 32
amo_small amo.Swap = omega arith
amo_small amo.Add = omega arith
amo_small amo.Xor = omega arith
amo_small amo.And = omega arith
amo_small amo.Or = omega arith
amo_small amo.Min = omega arith
amo_small amo.Max = omega arith
amo_small amo.Minu = omega arith
amo_small amo.Maxu = omega arith

width_small : (w : AtomicWidth) → width_code w < 8
width_small width.Word = omega arith
width_small width.Doubleword = omega arith

pub below : (i : Instr) → coded i < 2 ^ 32
below (Lui rd imm) = u_below 0x37 rd imm (omega arith)
below (Auipc rd imm) = u_below 0x17 rd imm (omega arith)
below (Jal rd offset) = j_below 0x6f rd offset (omega arith)
below (Jalr rd rs1 offset) = i_below 0x67 rd 0 rs1 offset (omega arith) (omega arith)
below (Branch op rs1 rs2 offset) = r_below 0x63 _ (branch_code op) rs1 rs2 _ (omega arith) (branch_small op) (branch_high offset)
  where
    branch_high : (n : ℕ) → n / 32 % 64 + n / 4096 % 2 * 64 < 128
    branch_high n = omega arith
below (Load op rd rs1 offset) = i_below 0x03 rd (load_code op) rs1 offset (omega arith) (load_small op)
below (Store op rs1 rs2 offset) = r_below 0x23 offset (store_code op) rs1 rs2 (offset / 32 % 128) (omega arith) (store_small op) (omega arith)
below (OpImm op rd rs1 imm) = i_below 0x13 rd (imm_code op) rs1 imm (omega arith) (imm_small op)
below (ShiftImm op rd rs1 by) = i_below 0x13 rd (shift_code op) rs1 (by % 64 + shift_top op * 32) (omega arith) (shift_small op)
below (Addiw rd rs1 imm) = i_below 0x1b rd 0 rs1 imm (omega arith) (omega arith)
below (ShiftImm32 op rd rs1 by) = r_below 0x1b rd (shift_code op) rs1 by (shift_top op) (omega arith) (shift_small op) (top_small op)
below (Op op rd rs1 rs2) = r_below 0x33 rd (reg_codes op).1 rs1 rs2 (reg_codes op).0 (omega arith) (reg_small op) (reg_top_small op)
below (Op32 op rd rs1 rs2) = r_below 0x3b rd (reg_32_codes op).1 rs1 rs2 (reg_32_codes op).0 (omega arith) (reg_32_small op) (reg_32_top_small op)
below (Fence rd rs1 high) = i_below 0x0f rd 0 rs1 high (omega arith) (omega arith)
below Ecall = omega arith
below Ebreak = omega arith
below (Lr width rd rs1 order) = r_below 0x2f rd (width_code width) rs1 0 (order % 4 + 2 * 4) (omega arith) (width_small width) (omega arith)
below (Sc width rd rs1 rs2 order) = r_below 0x2f rd (width_code width) rs1 rs2 (order % 4 + 3 * 4) (omega arith) (width_small width) (omega arith)
below (Amo op width rd rs1 rs2 order) = let small = amo_small op in r_below 0x2f rd (width_code width) rs1 rs2 (order % 4 + amo_code op * 4) (omega arith) (width_small width) (omega arith)
