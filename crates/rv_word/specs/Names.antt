-- What a word names and where it leads.
use Rattle.std.specs.Prelude.{ℕ, zero, suc, ◌+◌, ◌%◌, ◌^◌, ◌==◌, ◌&&◌, ◌||◌, not, Bool, true, false, if◌then◌else◌, Option, Some, None, List, [], ◌∷◌, length, drop, take, ◌/◌}
use Rattle.std.specs.Int.{w32, from_le_bytes}
use Rattle.std.specs.Option.{option_map_or}
use Rattle.rv_word.specs.InstrRegisters.{registers_of}
use Rattle.rv_word.specs.Table.{decode_of}
use Rattle.rv_word.specs.Memory.{in_range}
use Rattle.rv_word.specs.declared.instr.Instr.{Instr}
use Rattle.rv_word.specs.declared.instr.Instr.TheVariants.{Jal, Jalr, Branch}

abbrev pub is_register : Option ℕ → ℕ → Bool
is_register None r = false
is_register (Some n) r = n == r

-- one of the registers of the instruction is r
abbrev pub names : ℕ → Instr → Bool
names r i = is_register (registers_of i).rd r || (is_register (registers_of i).rs1 r || is_register (registers_of i).rs2 r)

abbrev pub has_scratch : ℕ → Bool
has_scratch w = option_map_or (names 31) (decode_of w) false

abbrev pub target_of : Instr → ℕ → Option ℕ
target_of (Jal rd offset) at = Some ((at + offset) % 2 ^ 64)
target_of (Branch op rs1 rs2 offset) at = Some ((at + offset) % 2 ^ 64)
target_of i at = None

abbrev pub jump_of : Option Instr → ℕ → Option ℕ
jump_of None at = None
jump_of (Some i) at = target_of i at

-- a basic block ends with a jump or a branch, and with a word that is no instruction
abbrev pub ends_block : Option Instr → Bool
ends_block None = true
ends_block (Some (Jal rd offset)) = true
ends_block (Some (Jalr rd rs1 offset)) = true
ends_block (Some (Branch op rs1 rs2 offset)) = true
ends_block (Some i) = false

abbrev pub links : ℕ → Bool
links rd = (rd == 1) || (rd == 5)

abbrev pub is_call_of : Option Instr → Bool
is_call_of (Some (Jal rd offset)) = links rd
is_call_of (Some (Jalr rd rs1 offset)) = links rd
is_call_of (Some i) = false
is_call_of None = false

-- a return: jalr x0, 0(x1) or 0(x5), or a jump without a link out of the procedure
abbrev pub is_return_of : Option Instr → ℕ → ℕ → ℕ → Bool
is_return_of (Some (Jalr rd rs1 offset)) at start len = (rd == 0) && (links rs1 && (offset == 0))
is_return_of (Some (Jal rd offset)) at start len = (rd == 0) && not (in_range start len ((at + offset) % 2 ^ 64))
is_return_of (Some i) at start len = false
is_return_of None at start len = false

-- the number in the first four bytes
abbrev pub word_at : List ℕ → ℕ
word_at bytes = from_le_bytes w32 (take 4 bytes)

-- the first n words of the bytes
abbrev pub words_in : ℕ → List ℕ → List ℕ
words_in zero bytes = []
words_in (suc n) bytes = word_at bytes ∷ words_in n (drop 4 bytes)

-- all whole words of the bytes
abbrev pub words_of : List ℕ → List ℕ
words_of bytes = words_in (length bytes / 4) bytes

-- the address of the first of these words that names x31, the first word standing at a
abbrev pub scratch_in : List ℕ → ℕ → Option ℕ
scratch_in [] a = None
scratch_in (w ∷ ws) a = if has_scratch w then Some a else scratch_in ws (a + 4)
