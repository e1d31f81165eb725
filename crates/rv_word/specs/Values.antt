-- What the operations of the instructions compute, from their operands as 64-bit numbers.
use Rattle.std.specs.Prelude.{ℕ, ◌+◌, ◌-◌, ◌*◌, ◌/◌, ◌%◌, ◌^◌, ◌==◌, nat_lt, if◌then◌else◌, Bool, true, false, not, ℤ, pos, ◌*ℤ◌, bit_and, bit_or, bit_xor}
use Rattle.std.specs.Int.{w32, w64, cast_signed, cast_unsigned, int_shr}
use Rattle.std.specs.Int.RustNames.{int_lt, int_div, int_rem}
use Rattle.rv_word.specs.Fields.{extended}
use Rattle.rv_word.specs.declared.instr.BranchOp.{BranchOp}
use Rattle.rv_word.specs.declared.instr.BranchOp.TheVariants.{Beq, Bne, Blt, Bge, Bltu, Bgeu}
use Rattle.rv_word.specs.declared.instr.LoadOp.{LoadOp}
use Rattle.rv_word.specs.declared.instr.LoadOp.TheVariants.{Lb, Lh, Lw, Ld, Lbu, Lhu, Lwu}
use Rattle.rv_word.specs.declared.instr.StoreOp.{StoreOp}
use Rattle.rv_word.specs.declared.instr.StoreOp.TheVariants.{Sb, Sh, Sw, Sd}
use Rattle.rv_word.specs.declared.instr.ImmOp.{ImmOp}
use Rattle.rv_word.specs.declared.instr.ImmOp.TheVariants.{Addi, Slti, Sltiu, Xori, Ori, Andi}
use Rattle.rv_word.specs.declared.instr.ShiftOp.{ShiftOp}
use Rattle.rv_word.specs.declared.instr.ShiftOp.TheVariants.{Sll, Srl, Sra}
use Rattle.rv_word.specs.declared.instr.RegOp.{RegOp}
use Rattle.rv_word.specs.declared.instr.RegOp.TheVariants as reg
use Rattle.rv_word.specs.declared.instr.RegOp32.{RegOp32}
use Rattle.rv_word.specs.declared.instr.RegOp32.TheVariants as reg32
use Rattle.rv_word.specs.declared.instr.AmoOp.{AmoOp}
use Rattle.rv_word.specs.declared.instr.AmoOp.TheVariants as amo
use Rattle.rv_word.specs.declared.instr.AtomicWidth.{AtomicWidth}
use Rattle.rv_word.specs.declared.instr.AtomicWidth.TheVariants.{Word, Doubleword}

-- ---- numbers

-- what 64 bits keep of a number
abbrev pub wrap : ℕ → ℕ
wrap n = n % 2 ^ 64

-- the number of 64 bits with its sign
abbrev pub signed : ℕ → ℤ
signed n = cast_signed w64 n

-- the low 32 bits
abbrev pub low_half : ℕ → ℕ
low_half n = n % 2 ^ 32

-- the low 32 bits with their sign
abbrev pub signed_half : ℕ → ℤ
signed_half n = cast_signed w32 (low_half n)

-- the low 32 bits, extended with their sign to 64 bits
abbrev pub low_word : ℕ → ℕ
low_word n = extended 32 (low_half n)

-- 1 where a test holds, else 0
abbrev pub flag : Bool → ℕ
flag false = 0
flag true = 1

-- ---- computation (RV64I, integer computational instructions)

abbrev pub imm_value : ImmOp → ℕ → ℕ → ℕ
imm_value Addi x y = wrap (x + y)
imm_value Slti x y = flag (int_lt (signed x) (signed y))
imm_value Sltiu x y = flag (nat_lt x y)
imm_value Xori x y = bit_xor x y
imm_value Ori x y = bit_or x y
imm_value Andi x y = bit_and x y

abbrev pub shift_value : ShiftOp → ℕ → ℕ → ℕ
shift_value Sll x by = wrap (x * 2 ^ by)
shift_value Srl x by = x / 2 ^ by
shift_value Sra x by = cast_unsigned w64 (int_shr (signed x) by)

-- shifts of the low 32 bits
abbrev pub shift_word_value : ShiftOp → ℕ → ℕ → ℕ
shift_word_value Sll x by = low_word (x * 2 ^ by)
shift_word_value Srl x by = low_word (low_half x / 2 ^ by)
shift_word_value Sra x by = low_word (cast_unsigned w32 (int_shr (signed_half x) by))

-- ---- multiplication and division (M extension)

-- the high half of a product
abbrev pub high : ℤ → ℕ
high z = cast_unsigned w64 (int_shr z 64)

-- what a division gives where the divisor is 0, and else
abbrev pub unless_zero : ℕ → ℕ → ℕ → ℕ
unless_zero divisor by_zero else_value = if divisor == 0 then by_zero else else_value

-- a quotient by 0 is all ones, a remainder the dividend; the overflow of a signed division gives the dividend and 0
abbrev pub reg_value : RegOp → ℕ → ℕ → ℕ
reg_value reg.Add x y = wrap (x + y)
reg_value reg.Sub x y = wrap (x + (2 ^ 64 - y))
reg_value reg.Sll x y = wrap (x * 2 ^ (y % 64))
reg_value reg.Slt x y = flag (int_lt (signed x) (signed y))
reg_value reg.Sltu x y = flag (nat_lt x y)
reg_value reg.Xor x y = bit_xor x y
reg_value reg.Srl x y = x / 2 ^ (y % 64)
reg_value reg.Sra x y = cast_unsigned w64 (int_shr (signed x) (y % 64))
reg_value reg.Or x y = bit_or x y
reg_value reg.And x y = bit_and x y
reg_value reg.Mul x y = wrap (x * y)
reg_value reg.Mulh x y = high (signed x *ℤ signed y)
reg_value reg.Mulhsu x y = high (signed x *ℤ pos y)
reg_value reg.Mulhu x y = x * y / 2 ^ 64
reg_value reg.Div x y = unless_zero y (2 ^ 64 - 1) (cast_unsigned w64 (int_div (signed x) (signed y)))
reg_value reg.Divu x y = unless_zero y (2 ^ 64 - 1) (x / y)
reg_value reg.Rem x y = unless_zero y x (cast_unsigned w64 (int_rem (signed x) (signed y)))
reg_value reg.Remu x y = unless_zero y x (x % y)

-- the same on the low 32 bits
abbrev pub reg_32_value : RegOp32 → ℕ → ℕ → ℕ
reg_32_value reg32.Addw x y = low_word (x + y)
reg_32_value reg32.Subw x y = low_word (x + (2 ^ 64 - y))
reg_32_value reg32.Sllw x y = shift_word_value Sll x (y % 32)
reg_32_value reg32.Srlw x y = shift_word_value Srl x (y % 32)
reg_32_value reg32.Sraw x y = shift_word_value Sra x (y % 32)
reg_32_value reg32.Mulw x y = low_word (x * y)
reg_32_value reg32.Divw x y =
    unless_zero (low_half y) (2 ^ 64 - 1) (extended 32 (cast_unsigned w32 (int_div (signed_half x) (signed_half y))))
reg_32_value reg32.Divuw x y = unless_zero (low_half y) (2 ^ 64 - 1) (extended 32 (low_half x / low_half y))
reg_32_value reg32.Remw x y =
    unless_zero (low_half y) (low_word x) (extended 32 (cast_unsigned w32 (int_rem (signed_half x) (signed_half y))))
reg_32_value reg32.Remuw x y = unless_zero (low_half y) (low_word x) (extended 32 (low_half x % low_half y))

-- ---- control transfer

-- whether a branch is taken
abbrev pub is_branch_taken : BranchOp → ℕ → ℕ → Bool
is_branch_taken Beq x y = x == y
is_branch_taken Bne x y = not (x == y)
is_branch_taken Blt x y = int_lt (signed x) (signed y)
is_branch_taken Bge x y = not (int_lt (signed x) (signed y))
is_branch_taken Bltu x y = nat_lt x y
is_branch_taken Bgeu x y = not (nat_lt x y)

-- ---- loads and stores

-- how many bytes a load reads
abbrev pub load_len : LoadOp → ℕ
load_len Lb = 1
load_len Lh = 2
load_len Lw = 4
load_len Ld = 8
load_len Lbu = 1
load_len Lhu = 2
load_len Lwu = 4

-- what a load makes of the number in these bytes
abbrev pub loaded : LoadOp → ℕ → ℕ
loaded Lb n = extended 8 n
loaded Lh n = extended 16 n
loaded Lw n = extended 32 n
loaded Ld n = n
loaded Lbu n = n
loaded Lhu n = n
loaded Lwu n = n

-- how many bytes a store writes
abbrev pub store_len : StoreOp → ℕ
store_len Sb = 1
store_len Sh = 2
store_len Sw = 4
store_len Sd = 8

-- ---- atomic memory operations (A extension)

-- how many bytes an atomic access has
abbrev pub atomic_len : AtomicWidth → ℕ
atomic_len Word = 4
atomic_len Doubleword = 8

-- what an atomic access puts into rd for the number in these bytes
abbrev pub answered : AtomicWidth → ℕ → ℕ
answered Word n = extended 32 n
answered Doubleword n = n

-- whether the first of two numbers of the width is the less, with and without sign
abbrev pub less_signed : AtomicWidth → ℕ → ℕ → Bool
less_signed Word x y = int_lt (signed_half x) (signed_half y)
less_signed Doubleword x y = int_lt (signed x) (signed y)

abbrev pub less_unsigned : AtomicWidth → ℕ → ℕ → Bool
less_unsigned Word x y = nat_lt (low_half x) (low_half y)
less_unsigned Doubleword x y = nat_lt x y

-- the number whose low bytes an AMO leaves where the number `old` was
abbrev pub left_by : AmoOp → AtomicWidth → ℕ → ℕ → ℕ
left_by amo.Swap width old v = v
left_by amo.Add width old v = wrap (old + v)
left_by amo.Xor width old v = bit_xor old v
left_by amo.And width old v = bit_and old v
left_by amo.Or width old v = bit_or old v
left_by amo.Min width old v = if less_signed width old v then old else v
left_by amo.Max width old v = if less_signed width old v then v else old
left_by amo.Minu width old v = if less_unsigned width old v then old else v
left_by amo.Maxu width old v = if less_unsigned width old v then v else old
