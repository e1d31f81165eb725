-- The registers and numbers of a word's instruction, whose word it is.
use Rattle.std.proofs.Common.{◌≡◌, ◌-◌, ℕ, ◌/◌, ◌%◌, ◌^◌, ◌<◌, ◌≤◌, ◌==◌, ◌&&◌, cond, Bool, true, false, Option, Some, None, List, [], ◌∷◌, refl, ap, sym, ◌∙◌, arith}
use Rattle.std.proofs.lemmas.Bool.{and_parts, eqb-true}
use Rattle.std.specs.Prelude.{IfSome}
use Rattle.std.specs.List.{AllByRecursion}
use Rattle.std.specs.Option.{option_map}
use Rattle.rv_word.specs.Codes.{with_code, with_codes, branch_op_of, branch_code, load_op_of, load_code, store_op_of, store_code, imm_op_of, imm_code, reg_op_of, reg_codes, reg_op_32_of, reg_32_codes, width_of, width_code, amo_op_of, amo_code}
use Rattle.rv_word.specs.Fields.{rd_of, rs1_of, rs2_of, funct3_of, funct7_of, i_imm_of}
use Rattle.rv_word.specs.Table.{row, opcodes, decode_of, lui_of, auipc_of, jal_of, jalr_of, branch_of, load_of, store_of, op_imm_of, op_imm_32_of, op_of, op_32_of, fence_of, system_of, lr_of, sc_of, amo_of, atomic_by, atomic_of, read_by, shift_of, shift_32_of, left_shifts, right_shifts, right_shift_of}
use Rattle.rv_word.specs.Words.{word_of, shift_code, shift_top}
use Rattle.rv_word.specs.declared.instr.BranchOp.{BranchOp}
use Rattle.rv_word.specs.declared.instr.BranchOp.TheVariants as branch
use Rattle.rv_word.specs.declared.instr.LoadOp.{LoadOp}
use Rattle.rv_word.specs.declared.instr.LoadOp.TheVariants as load
use Rattle.rv_word.specs.declared.instr.StoreOp.{StoreOp}
use Rattle.rv_word.specs.declared.instr.StoreOp.TheVariants as store
use Rattle.rv_word.specs.declared.instr.ImmOp.{ImmOp}
use Rattle.rv_word.specs.declared.instr.ImmOp.TheVariants as imm
use Rattle.rv_word.specs.declared.instr.RegOp.{RegOp}
use Rattle.rv_word.specs.declared.instr.RegOp.TheVariants as reg
use Rattle.rv_word.specs.declared.instr.RegOp32.{RegOp32}
use Rattle.rv_word.specs.declared.instr.RegOp32.TheVariants as reg32
use Rattle.rv_word.specs.declared.instr.AmoOp.{AmoOp}
use Rattle.rv_word.specs.declared.instr.AmoOp.TheVariants as amo
use Rattle.rv_word.specs.declared.instr.AtomicWidth.{AtomicWidth}
use Rattle.rv_word.specs.declared.instr.AtomicWidth.TheVariants as width
use Rattle.rv_word.specs.declared.instr.ShiftOp.{ShiftOp}
use Rattle.rv_word.specs.declared.instr.ShiftOp.TheVariants as shift
use Rattle.rv_word.specs.declared.instr.Instr.{Instr}
use Rattle.rv_word.specs.declared.instr.Instr.TheVariants.{Jal, Jalr, Branch, Load, Store, OpImm, ShiftImm, Addiw, ShiftImm32, Ecall, Ebreak}
use Rattle.disassembler.specs.declared.operand.Operand.{Operand}
use Rattle.disassembler.specs.declared.operand.Operand.TheVariants.{Register, Number, Pointer, Memory, Target}
use Rattle.disassembler.specs.Operands.{operands_of}

-- a register is one of 32, and a number one of 64 bits
abbrev pub IsGood : Operand → Type 0
IsGood (Register r) = r < 32
IsGood (Number n) = n < 2 ^ 64
IsGood (Pointer r) = r < 32
IsGood (Memory n r) = (n < 2 ^ 64) × (r < 32)
IsGood (Target at) = at < 2 ^ 64

-- a number of 12 bits with its sign, as 64 bits
abbrev pub IsShort : ℕ → Type 0
IsShort n = 2048 ≤ n → 2 ^ 64 - 2048 ≤ n

-- the numbers of an instruction fit their places; the distance of a jump or branch is one of 64 bits
abbrev pub IsNarrow : Instr → Type 0
IsNarrow (Jal rd offset) = offset < 2 ^ 64
IsNarrow (Branch op rs1 rs2 offset) = offset < 2 ^ 64
IsNarrow (Jalr rd rs1 offset) = IsShort offset
IsNarrow (Load op rd rs1 offset) = IsShort offset
IsNarrow (Store op rs1 rs2 offset) = IsShort offset
IsNarrow (OpImm op rd rs1 imm) = IsShort imm
IsNarrow (Addiw rd rs1 imm) = IsShort imm
IsNarrow (ShiftImm op rd rs1 by) = by < 64
IsNarrow (ShiftImm32 op rd rs1 by) = by < 32
IsNarrow i = Unit {0}

pub record IsInstrOf (w : ℕ) (i : Instr) : Type 0 where
  pub good : (at : ℕ) → AllByRecursion IsGood (operands_of at i)
  pub narrow : IsNarrow i
  pub word : word_of i ≡ w

abbrev Fits : ℕ → Option Instr → Type 0
Fits w o = IfSome o (IsInstrOf w)

-- ---- rows

-- each row's reading fits where its code is that of the word
all_rows : (rows : List (ℕ × (ℕ → Option Instr))) (code w : ℕ) → AllByRecursion (λ (r : ℕ × (ℕ → Option Instr)). code ≡ r.0 → Fits w (r.1 w)) rows → Fits w (read_by (row code rows) w)
all_rows [] code w all = tt
all_rows (r ∷ rs) code w all = by (code == r.0) refl (all_rows rs code w all.1)
  where
    by : (b : Bool) → (code == r.0) ≡ b → Fits w (read_by (row code rs) w) → Fits w (read_by (cond b (Some r.1) (row code rs)) w)
    by true is rest = all.0 (eqb-true code r.0 is)
    by false is rest = rest

mapped : {A : Type 0} (w : ℕ) (f : A → Instr) (o : Option A) → ((x : A) → o ≡ Some x → IsInstrOf w (f x)) → Fits w (option_map f o)
mapped w f None each = tt
mapped w f (Some x) each = each x refl

when : (w : ℕ) (b : Bool) (o : Option Instr) → (b ≡ true → Fits w o) → Fits w (cond b o None)
when w true o h = h refl
when w false o h = tt

-- what was found has the code
code_found : {A : Type 0} (code : A → ℕ) (xs : List A) (n : ℕ) (found : A) → with_code code xs n ≡ Some found → code found ≡ n
code_found code [] n found e = cc
code_found {A} code (x ∷ xs) n found e = by (code_found code xs n found) (n == code x) refl e
  where
    by : (with_code code xs n ≡ Some found → code found ≡ n) → (b : Bool) → (n == code x) ≡ b → cond b (Some x) (with_code code xs n) ≡ Some found → code found ≡ n
    by later true is h = let same : x ≡ found = cc in ap code (sym same) ∙ sym (eqb-true n (code x) is)
    by later false is h = later h

codes_found : {A : Type 0} (codes : A → ℕ × ℕ) (xs : List A) (m n : ℕ) (found : A) → with_codes codes xs m n ≡ Some found → ((codes found).0 ≡ m) × ((codes found).1 ≡ n)
codes_found codes [] m n found e = cc
codes_found {A} codes (x ∷ xs) m n found e = by (codes_found codes xs m n found) ((m == (codes x).0) && (n == (codes x).1)) refl e
  where
    by : (with_codes codes xs m n ≡ Some found → ((codes found).0 ≡ m) × ((codes found).1 ≡ n)) → (b : Bool) → ((m == (codes x).0) && (n == (codes x).1)) ≡ b → cond b (Some x) (with_codes codes xs m n) ≡ Some found → ((codes found).0 ≡ m) × ((codes found).1 ≡ n)
    by later true is h =
        let parts = and_parts (m == (codes x).0) (n == (codes x).1) is in
        let same : x ≡ found = cc in
        let first : m ≡ (codes x).0 = eqb-true m (codes x).0 parts.0 in
        let second : n ≡ (codes x).1 = eqb-true n (codes x).1 parts.1 in
        (ap (λ a. (codes a).0) (sym same) ∙ sym first, ap (λ a. (codes a).1) (sym same) ∙ sym second)
    by later false is h = later h

row_found : {A : Type 0} (key : A → ℕ) (rows : List (ℕ × A)) (n : ℕ) (found : A) → AllByRecursion (λ (r : ℕ × A). key r.1 ≡ r.0) rows → row n rows ≡ Some found → key found ≡ n
row_found key [] n found all e = cc
row_found {A} key (r ∷ rs) n found all e = by (row_found key rs n found all.1) (n == r.0) refl e
  where
    by : (row n rs ≡ Some found → key found ≡ n) → (b : Bool) → (n == r.0) ≡ b → cond b (Some r.1) (row n rs) ≡ Some found → key found ≡ n
    by later true is h = let same : r.1 ≡ found = cc in ap key (sym same) ∙ all.0 ∙ sym (eqb-true n r.0 is)
    by later false is h = later h

row_all : {A : Type 0} (key : A → ℕ) (k : ℕ) (rows : List (ℕ × A)) (n : ℕ) (found : A) → AllByRecursion (λ (r : ℕ × A). key r.1 ≡ k) rows → row n rows ≡ Some found → key found ≡ k
row_all key k [] n found all e = cc
row_all {A} key k (r ∷ rs) n found all e = by (row_all key k rs n found all.1) (n == r.0) e
  where
    by : (row n rs ≡ Some found → key found ≡ k) → (b : Bool) → cond b (Some r.1) (row n rs) ≡ Some found → key found ≡ k
    by later true h = let same : r.1 ≡ found = cc in ap key (sym same) ∙ all.0
    by later false h = later h

-- the operations that have a code
abbrev branches : List BranchOp
branches = branch.Beq ∷ branch.Bne ∷ branch.Blt ∷ branch.Bge ∷ branch.Bltu ∷ branch.Bgeu ∷ []

abbrev loads : List LoadOp
loads = load.Lb ∷ load.Lh ∷ load.Lw ∷ load.Ld ∷ load.Lbu ∷ load.Lhu ∷ load.Lwu ∷ []

abbrev stores : List StoreOp
stores = store.Sb ∷ store.Sh ∷ store.Sw ∷ store.Sd ∷ []

abbrev immediates : List ImmOp
immediates = imm.Addi ∷ imm.Slti ∷ imm.Sltiu ∷ imm.Xori ∷ imm.Ori ∷ imm.Andi ∷ []

abbrev registers : List RegOp
registers = reg.Add ∷ reg.Sll ∷ reg.Slt ∷ reg.Sltu ∷ reg.Xor ∷ reg.Srl ∷ reg.Or ∷ reg.And ∷ reg.Sub ∷ reg.Sra ∷ reg.Mul ∷ reg.Mulh ∷ reg.Mulhsu ∷ reg.Mulhu ∷ reg.Div ∷ reg.Divu ∷ reg.Rem ∷ reg.Remu ∷ []

abbrev registers_32 : List RegOp32
registers_32 = reg32.Addw ∷ reg32.Sllw ∷ reg32.Srlw ∷ reg32.Subw ∷ reg32.Sraw ∷ reg32.Mulw ∷ reg32.Divw ∷ reg32.Divuw ∷ reg32.Remw ∷ reg32.Remuw ∷ []

abbrev amos : List AmoOp
amos = amo.Swap ∷ amo.Add ∷ amo.Xor ∷ amo.And ∷ amo.Or ∷ amo.Min ∷ amo.Max ∷ amo.Minu ∷ amo.Maxu ∷ []

abbrev widths : List AtomicWidth
widths = width.Word ∷ width.Doubleword ∷ []

-- ---- opcodes

lui_fits : (w : ℕ) → w < 2 ^ 32 → w % 128 ≡ 0x37 → Fits w (lui_of w)
lui_fits w l e = record { good = λ at. (omega arith, (omega arith, tt)); narrow = tt; word = omega arith }

auipc_fits : (w : ℕ) → w < 2 ^ 32 → w % 128 ≡ 0x17 → Fits w (auipc_of w)
auipc_fits w l e = record { good = λ at. (omega arith, (omega arith, tt)); narrow = tt; word = omega arith }

jal_fits : (w : ℕ) → w < 2 ^ 32 → w % 128 ≡ 0x6f → Fits w (jal_of w)
jal_fits w l e = record { good = λ at. (omega arith, (omega arith, tt)); narrow = omega arith; word = omega arith }

jalr_fits : (w : ℕ) → w < 2 ^ 32 → w % 128 ≡ 0x67 → Fits w (jalr_of w)
jalr_fits w l e = when w (funct3_of w == 0) (Some (Jalr (rd_of w) (rs1_of w) (i_imm_of w))) (λ t.
    let zero_code : w / 4096 % 8 ≡ 0 = eqb-true (funct3_of w) 0 t in
    record { good = λ at. (omega arith, ((omega arith, omega arith), tt)); narrow = λ h. omega arith; word = omega arith })

branch_fits : (w : ℕ) → w < 2 ^ 32 → w % 128 ≡ 0x63 → Fits w (branch_of w)
branch_fits w l e = mapped w _ (branch_op_of (funct3_of w)) (λ op is.
    let code : branch_code op ≡ w / 4096 % 8 = code_found branch_code branches (funct3_of w) op is in
    record { good = λ at. (omega arith, (omega arith, (omega arith, tt))); narrow = omega arith; word = omega arith })

load_fits : (w : ℕ) → w < 2 ^ 32 → w % 128 ≡ 0x03 → Fits w (load_of w)
load_fits w l e = mapped w _ (load_op_of (funct3_of w)) (λ op is.
    let code : load_code op ≡ w / 4096 % 8 = code_found load_code loads (funct3_of w) op is in
    record { good = λ at. (omega arith, ((omega arith, omega arith), tt)); narrow = λ h. omega arith; word = omega arith })

store_fits : (w : ℕ) → w < 2 ^ 32 → w % 128 ≡ 0x23 → Fits w (store_of w)
store_fits w l e = mapped w _ (store_op_of (funct3_of w)) (λ op is.
    let code : store_code op ≡ w / 4096 % 8 = code_found store_code stores (funct3_of w) op is in
    record { good = λ at. (omega arith, ((omega arith, omega arith), tt)); narrow = λ h. omega arith; word = omega arith })

op_fits : (w : ℕ) → w < 2 ^ 32 → w % 128 ≡ 0x33 → Fits w (op_of w)
op_fits w l e = mapped w _ (reg_op_of (funct7_of w) (funct3_of w)) (λ op is.
    let codes = codes_found reg_codes registers (funct7_of w) (funct3_of w) op is in
    let high : (reg_codes op).0 ≡ w / 33554432 = codes.0 in
    let low : (reg_codes op).1 ≡ w / 4096 % 8 = codes.1 in
    record { good = λ at. (omega arith, (omega arith, (omega arith, tt))); narrow = tt; word = omega arith })

op_32_fits : (w : ℕ) → w < 2 ^ 32 → w % 128 ≡ 0x3b → Fits w (op_32_of w)
op_32_fits w l e = mapped w _ (reg_op_32_of (funct7_of w) (funct3_of w)) (λ op is.
    let codes = codes_found reg_32_codes registers_32 (funct7_of w) (funct3_of w) op is in
    let high : (reg_32_codes op).0 ≡ w / 33554432 = codes.0 in
    let low : (reg_32_codes op).1 ≡ w / 4096 % 8 = codes.1 in
    record { good = λ at. (omega arith, (omega arith, (omega arith, tt))); narrow = tt; word = omega arith })

fence_fits : (w : ℕ) → w < 2 ^ 32 → w % 128 ≡ 0x0f → Fits w (fence_of w)
fence_fits w l e = when w (funct3_of w == 0) _ (λ t.
    let zero_code : w / 4096 % 8 ≡ 0 = eqb-true (funct3_of w) 0 t in
    record { good = λ at. tt; narrow = tt; word = omega arith })

system_fits : (w : ℕ) → Fits w (system_of w)
system_fits w = by (w == 0x73) refl (w == 0x100073) refl
  where
    by : (b : Bool) → (w == 0x73) ≡ b → (c : Bool) → (w == 0x100073) ≡ c → Fits w (cond b (Some Ecall) (cond c (Some Ebreak) None))
    by true is c then = record { good = λ at. tt; narrow = tt; word = sym (eqb-true w 0x73 is) }
    by false is true then = record { good = λ at. tt; narrow = tt; word = sym (eqb-true w 0x100073 then) }
    by false is false then = tt

-- ---- shifts and numbers

-- the highest bits of a shift's word
abbrev top_of : ShiftOp → ℕ
top_of op = shift_top op / 2

immediate_fits : (w : ℕ) → w < 2 ^ 32 → w % 128 ≡ 0x13 → Fits w (option_map (λ op. OpImm op (rd_of w) (rs1_of w) (i_imm_of w)) (imm_op_of (funct3_of w)))
immediate_fits w l e = mapped w _ (imm_op_of (funct3_of w)) (λ op is.
    let code : imm_code op ≡ w / 4096 % 8 = code_found imm_code immediates (funct3_of w) op is in
    record { good = λ at. (omega arith, (omega arith, (omega arith, tt))); narrow = λ h. omega arith; word = omega arith })

shift_fits : (w : ℕ) (code : ℕ) (o : Option ShiftOp) → w < 2 ^ 32 → w % 128 ≡ 0x13 → w / 4096 % 8 ≡ code → ((op : ShiftOp) → o ≡ Some op → (shift_code op ≡ code) × (top_of op ≡ w / 2 ^ 26)) → Fits w (shift_of w o)
shift_fits w code o l e at_code each = mapped w _ o (λ op is.
    let codes = each op is in
    let low : shift_code op ≡ w / 4096 % 8 = codes.0 ∙ sym at_code in
    let high : shift_top op / 2 ≡ w / 2 ^ 26 = codes.1 in
    let even : shift_top op % 2 ≡ 0 = top_even op in
    record { good = λ at. (omega arith, (omega arith, (omega arith, tt))); narrow = omega arith; word = omega arith })
  where
    top_even : (op : ShiftOp) → shift_top op % 2 ≡ 0
    top_even shift.Sll = refl
    top_even shift.Srl = refl
    top_even shift.Sra = refl

shift_32_fits : (w : ℕ) (code : ℕ) (o : Option ShiftOp) → w < 2 ^ 32 → w % 128 ≡ 0x1b → w / 4096 % 8 ≡ code → ((op : ShiftOp) → o ≡ Some op → (shift_code op ≡ code) × (shift_top op ≡ w / 33554432)) → Fits w (shift_32_of w o)
shift_32_fits w code o l e at_code each = mapped w _ o (λ op is.
    let codes = each op is in
    let low : shift_code op ≡ w / 4096 % 8 = codes.0 ∙ sym at_code in
    let high : shift_top op ≡ w / 33554432 = codes.1 in
    record { good = λ at. (omega arith, (omega arith, (omega arith, tt))); narrow = omega arith; word = omega arith })

left_code : (n : ℕ) (op : ShiftOp) → row n left_shifts ≡ Some op → shift_code op ≡ 1
left_code n op e = row_all (λ (o : ShiftOp). shift_code o) 1 left_shifts n op (refl, tt) e

right_code : (arithmetic n : ℕ) (op : ShiftOp) → row n (right_shifts arithmetic) ≡ Some op → shift_code op ≡ 5
right_code arithmetic n op e = row_all (λ (o : ShiftOp). shift_code o) 5 (right_shifts arithmetic) n op (refl, (refl, tt)) e

op_imm_fits : (w : ℕ) → w < 2 ^ 32 → w % 128 ≡ 0x13 → Fits w (op_imm_of w)
op_imm_fits w l e = by (funct3_of w == 1) refl (funct3_of w == 5) refl
  where
    by : (b : Bool) → (funct3_of w == 1) ≡ b → (c : Bool) → (funct3_of w == 5) ≡ c → Fits w (cond b (shift_of w (row (w / 2 ^ 26) left_shifts)) (cond c (shift_of w (right_shift_of 16 (w / 2 ^ 26))) (option_map (λ op. OpImm op (rd_of w) (rs1_of w) (i_imm_of w)) (imm_op_of (funct3_of w)))))
    by true is c then =
        shift_fits w 1 (row (w / 2 ^ 26) left_shifts) l e (eqb-true (funct3_of w) 1 is)
        (λ op found. (left_code (w / 2 ^ 26) op found, row_found top_of left_shifts (w / 2 ^ 26) op (refl, tt) found))
    by false is true then =
        shift_fits w 5 (right_shift_of 16 (w / 2 ^ 26)) l e (eqb-true (funct3_of w) 5 then)
        (λ op found. (right_code 16 (w / 2 ^ 26) op found, row_found top_of (right_shifts 16) (w / 2 ^ 26) op (refl, (refl, tt)) found))
    by false is false then = immediate_fits w l e

op_imm_32_fits : (w : ℕ) → w < 2 ^ 32 → w % 128 ≡ 0x1b → Fits w (op_imm_32_of w)
op_imm_32_fits w l e = by (funct3_of w == 0) refl (funct3_of w == 1) refl (funct3_of w == 5) refl
  where
    by : (a : Bool) → (funct3_of w == 0) ≡ a → (b : Bool) → (funct3_of w == 1) ≡ b → (c : Bool) → (funct3_of w == 5) ≡ c → Fits w (cond a (Some (Addiw (rd_of w) (rs1_of w) (i_imm_of w))) (cond b (shift_32_of w (row (funct7_of w) left_shifts)) (cond c (shift_32_of w (right_shift_of 32 (funct7_of w))) None)))
    by true is b i c j =
        let zero_code : w / 4096 % 8 ≡ 0 = eqb-true (funct3_of w) 0 is in
        record { good = λ at. (omega arith, (omega arith, (omega arith, tt))); narrow = λ h. omega arith; word = omega arith }
    by false is true i c j =
        shift_32_fits w 1 (row (funct7_of w) left_shifts) l e (eqb-true (funct3_of w) 1 i)
        (λ op found. (left_code (funct7_of w) op found, row_found (λ (o : ShiftOp). shift_top o) left_shifts (funct7_of w) op (refl, tt) found))
    by false is false i true j =
        shift_32_fits w 5 (right_shift_of 32 (funct7_of w)) l e (eqb-true (funct3_of w) 5 j)
        (λ op found. (right_code 32 (funct7_of w) op found, row_found (λ (o : ShiftOp). shift_top o) (right_shifts 32) (funct7_of w) op (refl, (refl, tt)) found))
    by false is false i false j = tt

-- ---- atomic accesses

atomic_fits_by : (w : ℕ) (width : AtomicWidth) → w < 2 ^ 32 → w % 128 ≡ 0x2f → width_code width ≡ w / 4096 % 8 → Fits w (atomic_by (Some width) (w / 2 ^ 27) w)
atomic_fits_by w width l e size = by (w / 2 ^ 27 == 2) refl (w / 2 ^ 27 == 3) refl
  where
    by : (b : Bool) → (w / 2 ^ 27 == 2) ≡ b → (c : Bool) → (w / 2 ^ 27 == 3) ≡ c → Fits w (cond b (lr_of width w) (cond c (sc_of width w) (amo_of width (amo_op_of (w / 2 ^ 27)) w)))
    by true is c then =
        let top : w / 2 ^ 27 ≡ 2 = eqb-true (w / 2 ^ 27) 2 is in
        when w (rs2_of w == 0) _ (λ t.
        let none : w / 1048576 % 32 ≡ 0 = eqb-true (rs2_of w) 0 t in
        record { good = λ at. (omega arith, (omega arith, tt)); narrow = tt; word = omega arith })
    by false is true then =
        let top : w / 2 ^ 27 ≡ 3 = eqb-true (w / 2 ^ 27) 3 then in
        record { good = λ at. (omega arith, (omega arith, (omega arith, tt))); narrow = tt; word = omega arith }
    by false is false then = mapped w _ (amo_op_of (w / 2 ^ 27)) (λ op found.
        let code : amo_code op ≡ w / 2 ^ 27 = code_found amo_code amos (w / 2 ^ 27) op found in
        record { good = λ at. (omega arith, (omega arith, (omega arith, tt))); narrow = tt; word = omega arith })

atomic_fits : (w : ℕ) → w < 2 ^ 32 → w % 128 ≡ 0x2f → Fits w (atomic_of w)
atomic_fits w l e = by (width_of (funct3_of w)) refl
  where
    by : (o : Option AtomicWidth) → width_of (funct3_of w) ≡ o → Fits w (atomic_by o (w / 2 ^ 27) w)
    by None is = tt
    by (Some width) is = atomic_fits_by w width l e (code_found width_code widths (funct3_of w) width is)

-- ---- all

pub decoded : (w : ℕ) → w < 2 ^ 32 → IfSome (decode_of w) (IsInstrOf w)
unfolding decode_of
decoded w l =
    all_rows opcodes (w % 128) w (
      lui_fits w l,
      (
        auipc_fits w l,
        (
          jal_fits w l,
          (jalr_fits w l, (branch_fits w l, (load_fits w l, (store_fits w l, (op_imm_fits w l, (op_imm_32_fits w l, (op_fits w l, (op_32_fits w l, (fence_fits w l, ((λ e. system_fits w), (atomic_fits w l, tt))))))))))),
        ),
      ),
    )
