-- The line number program of a unit (DWARF 5, sections 6.2.2, 6.2.3 and 6.2.5): the rows that it appends. Of the registers
-- of its state machine only those are kept that a row here shows.
use Rattle.std.specs.Prelude.{ℕ, zero, suc, ◌+◌, ◌-◌, ◌*◌, ◌/◌, ◌%◌, ◌^◌, ◌==◌, ◌||◌, nat_lt, nat_le, if◌then◌else◌, Bool, true, false, Some, None, List, [], ◌++◌, Result, Ok, Err, length, option_to_list}
use Rattle.elf_form.specs.Fields.{field}
use Rattle.line_table.specs.Reading.{fault, ◌>>=◌}
use Rattle.line_table.specs.Numbers.{number, uleb, sleb}
use Rattle.line_table.specs.declared.fault.FaultKind.TheVariants.{Truncated, BadAddressSize, BadLength}
use Rattle.line_table.specs.declared.fault.LineFault.{LineFault}
use Rattle.line_table.specs.declared.registers.Registers.{Registers}
use Rattle.line_table.specs.declared.registers.Row.{Row}
use Rattle.line_table.specs.declared.registers.Step.{Step}
use Rattle.line_table.specs.declared.unit.UnitHeader.{UnitHeader}

-- ---- registers and rows

-- as a sequence begins
abbrev pub first_registers : Registers
first_registers = record { address = 0; file = 1; line = 1 }

-- the address after n instructions
abbrev pub after_instructions : UnitHeader → Registers → ℕ → Registers
after_instructions h r n = record r { address = (r.address + h.instruction_length * n) % 2 ^ 64 }

-- the line after a signed number of lines, in two's complement
abbrev pub after_lines : Registers → ℕ → Registers
after_lines r n = record r { line = (r.line + n) % 2 ^ 32 }

abbrev pub row_of : UnitHeader → Registers → Bool → Row
row_of h r is_end = record { unit = h.at; address = r.address; file = r.file; line = r.line; is_end = is_end }

-- the registers and the row after an operation, and the place of the next
abbrev pub sets : Registers → ℕ → Step
sets r next = record { registers = r; row = None; next = next }

abbrev pub appends : UnitHeader → Registers → ℕ → Step
appends h r next = record { registers = r; row = Some (row_of h r false); next = next }

abbrev pub ends : UnitHeader → Registers → ℕ → Step
ends h r next = record { registers = first_registers; row = Some (row_of h r true); next = next }

-- ---- special opcodes

-- a special opcode without opcode_base advances the address and the line
abbrev pub after_special : UnitHeader → Registers → ℕ → Registers
after_special h r n = after_lines (after_instructions h r (n / h.line_range)) (h.line_base + n % h.line_range)

-- ---- standard opcodes

-- the place after n numbers
abbrev pub after_numbers : ℕ → List ℕ → ℕ → Result ℕ LineFault
after_numbers zero b at = Ok at
after_numbers (suc n) b at = uleb b at >>= λ skipped. after_numbers n b skipped.1

-- how many numbers an opcode has that changes none of these registers: DW_LNS_set_column (5) and DW_LNS_set_isa (12) one,
-- DW_LNS_negate_stmt (6), DW_LNS_set_basic_block (7), DW_LNS_set_prologue_end (10) and DW_LNS_set_epilogue_begin (11)
-- none, an unknown one as many as standard_opcode_lengths says
abbrev pub number_count : UnitHeader → List ℕ → ℕ → ℕ
number_count h b opcode =
    if (opcode == 5) || (opcode == 12) then 1
    else if (opcode == 6) || (opcode == 7) || (opcode == 10) || (opcode == 11) then 0
    else field 1 b (h.opcode_lengths + (opcode - 1))

-- DW_LNS_copy (1), DW_LNS_advance_pc (2), DW_LNS_advance_line (3), DW_LNS_set_file (4), DW_LNS_const_add_pc (8),
-- DW_LNS_fixed_advance_pc (9), and the others, with what stands after them at this place
unfoldable pub standard_step : UnitHeader → List ℕ → Registers → ℕ → ℕ → Result Step LineFault
standard_step h b r opcode at =
    if opcode == 1 then Ok (appends h r at)
    else if opcode == 2 then (uleb b at >>= λ n. Ok (sets (after_instructions h r n.0) n.1))
    else if opcode == 3 then (sleb b at >>= λ n. Ok (sets (after_lines r n.0) n.1))
    else if opcode == 4 then (uleb b at >>= λ n. Ok (sets (record r { file = n.0 }) n.1))
    else if opcode == 8 then Ok (sets (after_instructions h r ((255 - h.opcode_base) / h.line_range)) at)
    else if opcode == 9 then (number 2 b at >>= λ n. Ok (sets (record r { address = (r.address + n.0) % 2 ^ 64 }) n.1))
    else (after_numbers (number_count h b opcode) b at >>= λ next. Ok (sets r next))

-- ---- extended opcodes

-- DW_LNE_end_sequence (1), DW_LNE_set_address (2), and the others, which change none of these registers. The operation
-- has `size` bytes from a place on, the first of which is the opcode.
abbrev pub operation : UnitHeader → List ℕ → Registers → ℕ → ℕ → Result Step LineFault
operation h b r size at =
    if field 1 b at == 1 then Ok (ends h r (at + size))
    else if field 1 b at == 2 then
    (if size == 9 then Ok (sets (record r { address = field 8 b (at + 1) }) (at + size)) else Err (fault at BadAddressSize))
    else Ok (sets r (at + size))

unfoldable pub extended_step : UnitHeader → List ℕ → Registers → ℕ → Result Step LineFault
extended_step h b r at = do
  size ← uleb b at
  if size.0 == 0 then Err (fault at BadLength)
      else if nat_lt (length b) (size.1 + size.0) then Err (fault at Truncated)
      else operation h b r size.0 size.1

-- ---- programs

-- the operation at a place: opcode 0 is extended, one from opcode_base on is special, the others are standard
unfoldable pub step : UnitHeader → List ℕ → Registers → ℕ → Result Step LineFault
step h b r at = do
  opcode ← number 1 b at
  if opcode.0 == 0 then extended_step h b r opcode.1
      else if nat_lt opcode.0 h.opcode_base then standard_step h b r opcode.0 opcode.1
      else Ok (appends h (after_special h r (opcode.0 - h.opcode_base)) opcode.1)

-- The rows of the operations from a place on up to the end of `b`, of which there are at most n. Since each has a byte or
-- more, n is never too small where it is the number of bytes.
abbrev pub rows_from : ℕ → UnitHeader → List ℕ → Registers → ℕ → Result (List Row) LineFault
rows_from zero h b r at = Ok []
rows_from (suc n) h b r at =
    if nat_le (length b) at then Ok [] else
    (step h b r at >>= λ s. rows_from n h b s.registers s.next >>= λ rows. Ok (option_to_list s.row ++ rows))

-- the rows of a unit's program, where `b` ends as the unit does
unfoldable pub program_rows : UnitHeader → List ℕ → Result (List Row) LineFault
program_rows h b = rows_from (length b) h b first_registers h.program
