-- The second pass: the words of the text, and the first line that leads nowhere or too far.
use Rattle.std.specs.Prelude.{ℕ, ◌+◌, ◌-◌, ◌*◌, ◌/◌, ◌%◌, ◌^◌, ◌==◌, ◌&&◌, nat_le, nat_lt, if◌then◌else◌, Bool, Option, Some, None, Result, Ok, Err, List, [], ◌∷◌, ◌++◌}
use Rattle.std.specs.Int.{w32, to_le_bytes}
use Rattle.rv_word.specs.Fields.{extended}
use Rattle.rv_word.specs.Words.{word_of as coded}
use Rattle.rv_word.specs.declared.instr.Instr.{Instr}
use Rattle.rv_word.specs.declared.instr.Instr.TheVariants.{Lui, Auipc, Jal, Jalr, Branch, Load, Store, OpImm, ShiftImm, Addiw, ShiftImm32, Op, Op32, Fence, Ecall, Ebreak, Lr, Sc, Amo}
use Rattle.rv_word.specs.declared.instr.ImmOp.TheVariants.{Addi}
use Rattle.rv_asm.specs.declared.fault.AsmFault.{AsmFault}
use Rattle.rv_asm.specs.declared.fault.AsmFault.TheVariants.{UnknownName, OutOfReach}
use Rattle.rv_asm.specs.declared.number.Number.{Number}
use Rattle.rv_asm.specs.declared.statement.Statement.{Statement}
use Rattle.rv_asm.specs.declared.statement.Statement.TheVariants as the
use Rattle.rv_asm.specs.Numbers.{wrapped}
use Rattle.rv_asm.specs.Registers.{named}
use Rattle.rv_asm.specs.Layout.{is_short}
use Rattle.rv_asm.specs.FirstPass.{◌>>=◌, Placed}

-- the bytes of a word, the lowest first
unfoldable pub word_bytes : ℕ → List ℕ
word_bytes word = to_le_bytes w32 word

abbrev pub instr_bytes : Instr → List ℕ
instr_bytes i = word_bytes (coded i)

-- the instruction with the number in its place: of `lui` and `auipc` the number of the upper 20 bits
unfoldable pub with_number : Instr → ℕ → Instr
with_number (Lui rd imm) n = Lui rd (extended 32 (n % 2 ^ 20 * 4096))
with_number (Auipc rd imm) n = Auipc rd (extended 32 (n % 2 ^ 20 * 4096))
with_number (Jal rd offset) n = Jal rd n
with_number (Jalr rd rs1 offset) n = Jalr rd rs1 n
with_number (Branch op rs1 rs2 offset) n = Branch op rs1 rs2 n
with_number (Load op rd rs1 offset) n = Load op rd rs1 n
with_number (Store op rs1 rs2 offset) n = Store op rs1 rs2 n
with_number (OpImm op rd rs1 imm) n = OpImm op rd rs1 n
with_number (ShiftImm op rd rs1 by) n = ShiftImm op rd rs1 (n % 64)
with_number (Addiw rd rs1 imm) n = Addiw rd rs1 n
with_number (ShiftImm32 op rd rs1 by) n = ShiftImm32 op rd rs1 (n % 32)
with_number (Op op rd rs1 rs2) n = Op op rd rs1 rs2
with_number (Op32 op rd rs1 rs2) n = Op32 op rd rs1 rs2
with_number (Fence rd rs1 high) n = Fence rd rs1 high
with_number Ecall n = Ecall
with_number Ebreak n = Ebreak
with_number (Lr width rd rs1 order) n = Lr width rd rs1 order
with_number (Sc width rd rs1 rs2 order) n = Sc width rd rs1 rs2 order
with_number (Amo op width rd rs1 rs2 order) n = Amo op width rd rs1 rs2 order

-- a number as a multiple of 4096 and a rest from -2048 to 2047
unfoldable pub upper : ℕ → ℕ
upper n = extended 32 ((n + 2048) % 2 ^ 32 / 4096 * 4096)

unfoldable pub lower : ℕ → ℕ
lower n = extended 12 (n % 4096)

-- `lui` and `addiw` that put a number of 32 bits with its sign into the register
abbrev pub pair_bytes : ℕ → ℕ → List ℕ
pair_bytes rd n = instr_bytes (Lui rd (upper n)) ++ instr_bytes (Addiw rd rd (lower n))

-- `li`
abbrev pub number_bytes : ℕ → Number → List ℕ
number_bytes rd n = if is_short n then instr_bytes (OpImm Addi rd 0 (wrapped n)) else pair_bytes rd (wrapped n)

-- how far a branch and a jump reach backwards, and two bytes less forwards
abbrev pub reach : Instr → ℕ
reach (Branch op rs1 rs2 offset) = 4096
reach i = 1048576

-- an even distance within the reach
abbrev pub reaches : Instr → ℕ → ℕ → Bool
reaches i at target =
    if nat_lt target at then nat_le (at - target) (reach i) && ((at - target) % 2 == 0)
    else nat_le (target - at) (reach i - 2) && ((target - at) % 2 == 0)

-- the distance as 64 bits
abbrev pub distance : ℕ → ℕ → ℕ
distance at target = if nat_lt target at then 2 ^ 64 - (at - target) else target - at

-- a jump or branch to the address of a name
abbrev pub jump_bytes : ℕ → ℕ → Instr → Option ℕ → Result (List ℕ) AsmFault
jump_bytes line at i None = Err (UnknownName line)
jump_bytes line at i (Some target) =
    if reaches i at target then Ok (instr_bytes (with_number i (distance at target))) else Err (OutOfReach line)

-- `la` of the address of a name
abbrev pub address_bytes : ℕ → ℕ → Option ℕ → Result (List ℕ) AsmFault
address_bytes line rd None = Err (UnknownName line)
address_bytes line rd (Some target) = if nat_lt target (2 ^ 31) then Ok (pair_bytes rd target) else Err (OutOfReach line)

-- the bytes of a statement of the text
abbrev pub code_by : List (List ℕ × ℕ) → Placed → Statement → Result (List ℕ) AsmFault
code_by labels p (the.Value w n) = Ok (word_bytes (wrapped n % 2 ^ 32))
code_by labels p (the.Instruction i) = Ok (instr_bytes i)
code_by labels p (the.Numbered i n) = Ok (instr_bytes (with_number i (wrapped n)))
code_by labels p (the.Jump i) = jump_bytes p.line p.at i (named p.text labels)
code_by labels p (the.LoadNumber rd n) = Ok (number_bytes rd n)
code_by labels p (the.LoadAddress rd) = address_bytes p.line rd (named p.text labels)
code_by labels p other = Ok []

unfoldable pub code_of : List (List ℕ × ℕ) → Placed → Result (List ℕ) AsmFault
code_of labels p = code_by labels p p.statement

-- the bytes of the text
abbrev pub code : List (List ℕ × ℕ) → List Placed → Result (List ℕ) AsmFault
code labels [] = Ok []
code labels (p ∷ ps) = do
  first ← code_of labels p
  others ← code labels ps
  Ok (first ++ others)

-- the bytes so far and those that are due
abbrev pub joined : List ℕ → Result (List ℕ) AsmFault → Result (List ℕ) AsmFault
joined bytes (Ok more) = Ok (bytes ++ more)
joined bytes (Err fault) = Err fault
