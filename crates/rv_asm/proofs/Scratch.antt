-- Whether an instruction's word names x31 doesn't depend on its number.
use Rattle.std.proofs.Common.{◌≡◌, ℕ, ◌+◌, ◌*◌, ◌/◌, ◌%◌, ◌^◌, ◌<◌, ◌==◌, ◌||◌, Bool, true, false, refl, sym, ap, ◌∙◌, arith}
use Rattle.rv_word.specs.declared.instr.Instr.{Instr}
use Rattle.rv_word.specs.declared.instr.Instr.TheVariants.{Lui, Auipc, Jal, Jalr, Branch, Load, Store, OpImm, ShiftImm, Addiw, ShiftImm32, Op, Op32, Fence, Ecall, Ebreak, Lr, Sc, Amo}
use Rattle.rv_word.specs.declared.instr.BranchOp.{BranchOp}
use Rattle.rv_word.specs.declared.instr.BranchOp.TheVariants.{Beq, Bne, Blt, Bge, Bltu, Bgeu}
use Rattle.rv_word.specs.declared.instr.LoadOp.{LoadOp}
use Rattle.rv_word.specs.declared.instr.LoadOp.TheVariants.{Lb, Lh, Lw, Ld, Lbu, Lhu, Lwu}
use Rattle.rv_word.specs.declared.instr.StoreOp.{StoreOp}
use Rattle.rv_word.specs.declared.instr.StoreOp.TheVariants.{Sb, Sh, Sw, Sd}
use Rattle.rv_word.specs.declared.instr.ImmOp.{ImmOp}
use Rattle.rv_word.specs.declared.instr.ImmOp.TheVariants.{Addi, Slti, Sltiu, Xori, Ori, Andi}
use Rattle.rv_word.specs.declared.instr.ShiftOp.{ShiftOp}
use Rattle.rv_word.specs.declared.instr.ShiftOp.TheVariants as shift
use Rattle.rv_word.specs.Fields.{extended, opcode_of, rd_of, funct3_of, rs1_of, rs2_of, funct7_of}
use Rattle.rv_word.specs.Table.{decode_of}
use Rattle.rv_word.specs.Names.{has_scratch}
use Rattle.rv_word.specs.Codes.{branch_code, load_code, store_code, imm_code}
use Rattle.rv_word.specs.Words.{r_form, i_form, u_form, j_form, word_of as coded, shift_code, shift_top}
use Rattle.rv_asm.specs.SecondPass.{with_number}
use Rattle.rv_asm.proofs.FormatFields.{u_opcode, u_rd, j_opcode, j_rd, i_opcode, i_rd, i_funct3, i_rs1, i_top, r_opcode, r_rd, r_funct3, r_rs1, r_rs2, r_funct7}

-- ---- what a word names, by its opcode and its fields

abbrev one : ℕ → Bool
one w = rd_of w == 31

abbrev two : ℕ → Bool
two w = (rd_of w == 31) || (rs1_of w == 31)

abbrev sources : ℕ → Bool
sources w = (rs1_of w == 31) || (rs2_of w == 31)

or_none : (b : Bool) → (b || false) ≡ b
or_none true = refl
or_none false = refl

two_named : (w : ℕ) → ((rd_of w == 31) || ((rs1_of w == 31) || false)) ≡ two w
two_named w = ap (λ b. (rd_of w == 31) || b) (or_none (rs1_of w == 31))

at_lui : (w : ℕ) → opcode_of w ≡ 0x37 → has_scratch w ≡ one w
unfolding decode_of
at_lui w e = rw e (or_none (rd_of w == 31))

at_auipc : (w : ℕ) → opcode_of w ≡ 0x17 → has_scratch w ≡ one w
unfolding decode_of
at_auipc w e = rw e (or_none (rd_of w == 31))

at_jal : (w : ℕ) → opcode_of w ≡ 0x6f → has_scratch w ≡ one w
unfolding decode_of
at_jal w e = rw e (or_none (rd_of w == 31))

at_jalr : (w : ℕ) → opcode_of w ≡ 0x67 → funct3_of w ≡ 0 → has_scratch w ≡ two w
unfolding decode_of
at_jalr w e c = rw (e, c) (two_named w)

at_branch : (op : BranchOp) (w : ℕ) → opcode_of w ≡ 0x63 → funct3_of w ≡ branch_code op → has_scratch w ≡ sources w
unfolding decode_of
at_branch Beq w e c = rw (e, c) refl
at_branch Bne w e c = rw (e, c) refl
at_branch Blt w e c = rw (e, c) refl
at_branch Bge w e c = rw (e, c) refl
at_branch Bltu w e c = rw (e, c) refl
at_branch Bgeu w e c = rw (e, c) refl

at_load : (op : LoadOp) (w : ℕ) → opcode_of w ≡ 0x03 → funct3_of w ≡ load_code op → has_scratch w ≡ two w
unfolding decode_of
at_load Lb w e c = rw (e, c) (two_named w)
at_load Lh w e c = rw (e, c) (two_named w)
at_load Lw w e c = rw (e, c) (two_named w)
at_load Ld w e c = rw (e, c) (two_named w)
at_load Lbu w e c = rw (e, c) (two_named w)
at_load Lhu w e c = rw (e, c) (two_named w)
at_load Lwu w e c = rw (e, c) (two_named w)

at_store : (op : StoreOp) (w : ℕ) → opcode_of w ≡ 0x23 → funct3_of w ≡ store_code op → has_scratch w ≡ sources w
unfolding decode_of
at_store Sb w e c = rw (e, c) refl
at_store Sh w e c = rw (e, c) refl
at_store Sw w e c = rw (e, c) refl
at_store Sd w e c = rw (e, c) refl

at_imm : (op : ImmOp) (w : ℕ) → opcode_of w ≡ 0x13 → funct3_of w ≡ imm_code op → has_scratch w ≡ two w
unfolding decode_of
at_imm Addi w e c = rw (e, c) (two_named w)
at_imm Slti w e c = rw (e, c) (two_named w)
at_imm Sltiu w e c = rw (e, c) (two_named w)
at_imm Xori w e c = rw (e, c) (two_named w)
at_imm Ori w e c = rw (e, c) (two_named w)
at_imm Andi w e c = rw (e, c) (two_named w)

at_shift : (op : ShiftOp) (w : ℕ) → opcode_of w ≡ 0x13 → funct3_of w ≡ shift_code op → w / 2 ^ 26 ≡ shift_top op / 2 → has_scratch w ≡ two w
unfolding decode_of
at_shift shift.Sll w e c t = rw (e, c, t) (two_named w)
at_shift shift.Srl w e c t = rw (e, c, t) (two_named w)
at_shift shift.Sra w e c t = rw (e, c, t) (two_named w)

at_addiw : (w : ℕ) → opcode_of w ≡ 0x1b → funct3_of w ≡ 0 → has_scratch w ≡ two w
unfolding decode_of
at_addiw w e c = rw (e, c) (two_named w)

at_shift_32 : (op : ShiftOp) (w : ℕ) → opcode_of w ≡ 0x1b → funct3_of w ≡ shift_code op → funct7_of w ≡ shift_top op → has_scratch w ≡ two w
unfolding decode_of
at_shift_32 shift.Sll w e c t = rw (e, c, t) (two_named w)
at_shift_32 shift.Srl w e c t = rw (e, c, t) (two_named w)
at_shift_32 shift.Sra w e c t = rw (e, c, t) (two_named w)

-- ---- what an instruction's word names

abbrev pub writes_x31 : ℕ → Bool
writes_x31 rd = rd % 32 == 31

pub of_lui : (rd n : ℕ) → has_scratch (coded (Lui rd n)) ≡ writes_x31 rd
of_lui rd n = at_lui (u_form 0x37 rd n) (u_opcode 0x37 rd n (omega arith)) ∙ ap (λ r. r == 31) (u_rd 0x37 rd n (omega arith))

of_auipc : (rd n : ℕ) → has_scratch (coded (Auipc rd n)) ≡ writes_x31 rd
of_auipc rd n = at_auipc (u_form 0x17 rd n) (u_opcode 0x17 rd n (omega arith)) ∙ ap (λ r. r == 31) (u_rd 0x17 rd n (omega arith))

of_jal : (rd n : ℕ) → has_scratch (coded (Jal rd n)) ≡ writes_x31 rd
of_jal rd n = at_jal (j_form 0x6f rd n) (j_opcode 0x6f rd n (omega arith)) ∙ ap (λ r. r == 31) (j_rd 0x6f rd n (omega arith))

two_of : (w rd rs1 : ℕ) → rd_of w ≡ rd % 32 → rs1_of w ≡ rs1 % 32 → two w ≡ (writes_x31 rd || writes_x31 rs1)
two_of w rd rs1 d s = ap (λ r. (r == 31) || (rs1_of w == 31)) d ∙ ap (λ r. (rd % 32 == 31) || (r == 31)) s

sources_of : (w rs1 rs2 : ℕ) → rs1_of w ≡ rs1 % 32 → rs2_of w ≡ rs2 % 32 → sources w ≡ (writes_x31 rs1 || writes_x31 rs2)
sources_of w rs1 rs2 d s = ap (λ r. (r == 31) || (rs2_of w == 31)) d ∙ ap (λ r. (rs1 % 32 == 31) || (r == 31)) s

i_two : (o rd c rs1 n : ℕ) → o < 128 → c < 8 → two (i_form o rd c rs1 n) ≡ (writes_x31 rd || writes_x31 rs1)
i_two o rd c rs1 n h l = two_of (i_form o rd c rs1 n) rd rs1 (i_rd o rd c rs1 n h) (i_rs1 o rd c rs1 n h l)

r_sources : (o rd c rs1 rs2 t : ℕ) → o < 128 → c < 8 → sources (r_form o rd c rs1 rs2 t) ≡ (writes_x31 rs1 || writes_x31 rs2)
r_sources o rd c rs1 rs2 t h l = sources_of (r_form o rd c rs1 rs2 t) rs1 rs2 (r_rs1 o rd c rs1 rs2 t h l) (r_rs2 o rd c rs1 rs2 t h l)

of_jalr : (rd rs1 n : ℕ) → has_scratch (coded (Jalr rd rs1 n)) ≡ (writes_x31 rd || writes_x31 rs1)
of_jalr rd rs1 n =
    at_jalr (i_form 0x67 rd 0 rs1 n) (i_opcode 0x67 rd 0 rs1 n (omega arith)) (i_funct3 0x67 rd 0 rs1 n (omega arith) (omega arith))
    ∙ i_two 0x67 rd 0 rs1 n (omega arith) (omega arith)

of_addiw : (rd rs1 n : ℕ) → has_scratch (coded (Addiw rd rs1 n)) ≡ (writes_x31 rd || writes_x31 rs1)
of_addiw rd rs1 n =
    at_addiw (i_form 0x1b rd 0 rs1 n) (i_opcode 0x1b rd 0 rs1 n (omega arith)) (i_funct3 0x1b rd 0 rs1 n (omega arith) (omega arith))
    ∙ i_two 0x1b rd 0 rs1 n (omega arith) (omega arith)

pub branch_small : (op : BranchOp) → branch_code op < 8
branch_small Beq = omega arith
branch_small Bne = omega arith
branch_small Blt = omega arith
branch_small Bge = omega arith
branch_small Bltu = omega arith
branch_small Bgeu = omega arith

pub load_small : (op : LoadOp) → load_code op < 8
load_small Lb = omega arith
load_small Lh = omega arith
load_small Lw = omega arith
load_small Ld = omega arith
load_small Lbu = omega arith
load_small Lhu = omega arith
load_small Lwu = omega arith

pub store_small : (op : StoreOp) → store_code op < 8
store_small Sb = omega arith
store_small Sh = omega arith
store_small Sw = omega arith
store_small Sd = omega arith

pub imm_small : (op : ImmOp) → imm_code op < 8
imm_small Addi = omega arith
imm_small Slti = omega arith
imm_small Sltiu = omega arith
imm_small Xori = omega arith
imm_small Ori = omega arith
imm_small Andi = omega arith

pub shift_small : (op : ShiftOp) → shift_code op < 8
shift_small shift.Sll = omega arith
shift_small shift.Srl = omega arith
shift_small shift.Sra = omega arith

of_load : (op : LoadOp) (rd rs1 n : ℕ) → has_scratch (coded (Load op rd rs1 n)) ≡ (writes_x31 rd || writes_x31 rs1)
of_load op rd rs1 n =
    let small = load_small op in
    at_load op (i_form 0x03 rd (load_code op) rs1 n) (i_opcode 0x03 rd (load_code op) rs1 n (omega arith)) (i_funct3 0x03 rd (load_code op) rs1 n (omega arith) small)
    ∙ i_two 0x03 rd (load_code op) rs1 n (omega arith) small

of_imm : (op : ImmOp) (rd rs1 n : ℕ) → has_scratch (coded (OpImm op rd rs1 n)) ≡ (writes_x31 rd || writes_x31 rs1)
of_imm op rd rs1 n =
    let small = imm_small op in
    at_imm op (i_form 0x13 rd (imm_code op) rs1 n) (i_opcode 0x13 rd (imm_code op) rs1 n (omega arith)) (i_funct3 0x13 rd (imm_code op) rs1 n (omega arith) small)
    ∙ i_two 0x13 rd (imm_code op) rs1 n (omega arith) small

of_branch : (op : BranchOp) (rs1 rs2 n : ℕ) → has_scratch (coded (Branch op rs1 rs2 n)) ≡ (writes_x31 rs1 || writes_x31 rs2)
of_branch op rs1 rs2 n =
    let small = branch_small op in
    let low : ℕ = n / 2 % 16 * 2 + n / 2048 % 2 in
    let high : ℕ = n / 32 % 64 + n / 4096 % 2 * 64 in
    at_branch op (r_form 0x63 low (branch_code op) rs1 rs2 high) (r_opcode 0x63 low (branch_code op) rs1 rs2 high (omega arith)) (r_funct3 0x63 low (branch_code op) rs1 rs2 high (omega arith) small)
    ∙ r_sources 0x63 low (branch_code op) rs1 rs2 high (omega arith) small

of_store : (op : StoreOp) (rs1 rs2 n : ℕ) → has_scratch (coded (Store op rs1 rs2 n)) ≡ (writes_x31 rs1 || writes_x31 rs2)
of_store op rs1 rs2 n =
    let small = store_small op in
    let high : ℕ = n / 32 % 128 in
    at_store op (r_form 0x23 n (store_code op) rs1 rs2 high) (r_opcode 0x23 n (store_code op) rs1 rs2 high (omega arith)) (r_funct3 0x23 n (store_code op) rs1 rs2 high (omega arith) small)
    ∙ r_sources 0x23 n (store_code op) rs1 rs2 high (omega arith) small

shift_tops : (op : ShiftOp) (n : ℕ) → (n % 64 + shift_top op * 32) % 4096 / 64 ≡ shift_top op / 2
shift_tops shift.Sll n = omega arith
shift_tops shift.Srl n = omega arith
shift_tops shift.Sra n = omega arith

of_shift : (op : ShiftOp) (rd rs1 n : ℕ) → has_scratch (coded (ShiftImm op rd rs1 n)) ≡ (writes_x31 rd || writes_x31 rs1)
of_shift op rd rs1 n =
    let small = shift_small op in
    let imm : ℕ = n % 64 + shift_top op * 32 in
    at_shift op (i_form 0x13 rd (shift_code op) rs1 imm) (i_opcode 0x13 rd (shift_code op) rs1 imm (omega arith)) (i_funct3 0x13 rd (shift_code op) rs1 imm (omega arith) small)
    (i_top 0x13 rd (shift_code op) rs1 imm (omega arith) small ∙ shift_tops op n)
    ∙ i_two 0x13 rd (shift_code op) rs1 imm (omega arith) small

of_shift_32 : (op : ShiftOp) (rd rs1 n : ℕ) → has_scratch (coded (ShiftImm32 op rd rs1 n)) ≡ (writes_x31 rd || writes_x31 rs1)
of_shift_32 op rd rs1 n =
    let small = shift_small op in
    at_shift_32 op (r_form 0x1b rd (shift_code op) rs1 n (shift_top op)) (r_opcode 0x1b rd (shift_code op) rs1 n (shift_top op) (omega arith)) (r_funct3 0x1b rd (shift_code op) rs1 n (shift_top op) (omega arith) small)
    (r_funct7 0x1b rd (shift_code op) rs1 n (shift_top op) (omega arith) small)
    ∙ two_of (r_form 0x1b rd (shift_code op) rs1 n (shift_top op)) rd rs1 (r_rd 0x1b rd (shift_code op) rs1 n (shift_top op) (omega arith)) (r_rs1 0x1b rd (shift_code op) rs1 n (shift_top op) (omega arith) small)

-- ---- numbers in their places

pub same_scratch : (i : Instr) (n : ℕ) → has_scratch (coded (with_number i n)) ≡ has_scratch (coded i)
unfolding with_number
same_scratch (Lui rd imm) n = of_lui rd (extended 32 (n % 2 ^ 20 * 4096)) ∙ sym (of_lui rd imm)
same_scratch (Auipc rd imm) n = of_auipc rd (extended 32 (n % 2 ^ 20 * 4096)) ∙ sym (of_auipc rd imm)
same_scratch (Jal rd offset) n = of_jal rd n ∙ sym (of_jal rd offset)
same_scratch (Jalr rd rs1 offset) n = of_jalr rd rs1 n ∙ sym (of_jalr rd rs1 offset)
same_scratch (Branch op rs1 rs2 offset) n = of_branch op rs1 rs2 n ∙ sym (of_branch op rs1 rs2 offset)
same_scratch (Load op rd rs1 offset) n = of_load op rd rs1 n ∙ sym (of_load op rd rs1 offset)
same_scratch (Store op rs1 rs2 offset) n = of_store op rs1 rs2 n ∙ sym (of_store op rs1 rs2 offset)
same_scratch (OpImm op rd rs1 imm) n = of_imm op rd rs1 n ∙ sym (of_imm op rd rs1 imm)
same_scratch (ShiftImm op rd rs1 by) n = of_shift op rd rs1 (n % 64) ∙ sym (of_shift op rd rs1 by)
same_scratch (Addiw rd rs1 imm) n = of_addiw rd rs1 n ∙ sym (of_addiw rd rs1 imm)
same_scratch (ShiftImm32 op rd rs1 by) n = of_shift_32 op rd rs1 (n % 32) ∙ sym (of_shift_32 op rd rs1 by)
same_scratch (Op op rd rs1 rs2) n = refl
same_scratch (Op32 op rd rs1 rs2) n = refl
same_scratch (Fence rd rs1 high) n = refl
same_scratch Ecall n = refl
same_scratch Ebreak n = refl
same_scratch (Lr width rd rs1 order) n = refl
same_scratch (Sc width rd rs1 rs2 order) n = refl
same_scratch (Amo op width rd rs1 rs2 order) n = refl

neither : (b : Bool) → b ≡ false → (b || (0 % 32 == 31)) ≡ false
neither b h = ap (λ t. t || (0 % 32 == 31)) h

both : (b : Bool) → b ≡ false → (b || b) ≡ false
both b h = ap (λ t. t || t) h

-- `li` and `la` name what the `lui` of their register does
pub short_scratch : (rd n : ℕ) → has_scratch (coded (Lui rd 0)) ≡ false → has_scratch (coded (OpImm Addi rd 0 n)) ≡ false
short_scratch rd n h = of_imm Addi rd 0 n ∙ neither (writes_x31 rd) (sym (of_lui rd 0) ∙ h)

pub upper_scratch : (rd n : ℕ) → has_scratch (coded (Lui rd 0)) ≡ false → has_scratch (coded (Lui rd n)) ≡ false
upper_scratch rd n h = of_lui rd n ∙ sym (of_lui rd 0) ∙ h

pub lower_scratch : (rd n : ℕ) → has_scratch (coded (Lui rd 0)) ≡ false → has_scratch (coded (Addiw rd rd n)) ≡ false
lower_scratch rd n h = of_addiw rd rd n ∙ both (writes_x31 rd) (sym (of_lui rd 0) ∙ h)
