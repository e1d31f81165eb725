-- A hart's bank: the doublewords that the words of the tool read and write in place of memory. Doubleword 0 reads as the
-- hart's ticks, doubleword 1 saves x5, and the others are slots.
use Rattle.std.specs.Prelude.{ℕ, ◌/◌, ◌%◌, ◌==◌, ◌&&◌, nat_lt, if◌then◌else◌, Bool, List, slice_index, slice_set}
use Rattle.pn_types.specs.declared.limits.TheConstants.{BANK_LEN, FIRST_SLOT}
use Rattle.tramp_spec.specs.declared.mark.Mark.{Mark}
use Rattle.tramp_spec.specs.declared.mark.Mark.TheVariants.{Own, Enter, Tool, Leave}

-- how many doublewords a bank has; no proof counts up to it
unfoldable pub bank_len : ℕ
bank_len = BANK_LEN

-- the first slot
abbrev pub first_slot : ℕ
first_slot = FIRST_SLOT

-- what is read at doubleword n
abbrev pub bank_at : ℕ → List ℕ → ℕ → ℕ
bank_at ticks bank n = if n == 0 then ticks else slice_index bank n

-- the bank after a store to doubleword n; one to doubleword 0 changes nothing
abbrev pub set_bank : List ℕ → ℕ → ℕ → List ℕ
set_bank bank n v = if n == 0 then bank else slice_set bank n v

-- the saved x5
abbrev pub saved_x5 : List ℕ → ℕ
saved_x5 bank = slice_index bank 1

-- The doublewords of the bank that the loads and stores of a word reach. A word of the program has its memory instead.
abbrev pub reach_of : Mark → ℕ
reach_of Tool = bank_len
reach_of Enter = 0
reach_of Leave = 0
reach_of Own = 0

-- the byte address of one of the first n doublewords
abbrev pub is_in_bank : ℕ → ℕ → Bool
is_in_bank n at = (at % 8 == 0) && nat_lt (at / 8) n
