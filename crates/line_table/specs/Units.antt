-- The header of a unit of the line table (DWARF 5, section 6.2.4; DWARF 4 has neither of the two sizes). The checks refuse
-- a header before they ask for a field that it doesn't have.
use Rattle.std.specs.Prelude.{ℕ, ◌+◌, ◌-◌, ◌^◌, ◌==◌, ◌&&◌, ◌||◌, not, nat_lt, nat_le, if◌then◌else◌, Bool, Option, List, [], ◌∷◌, Result, length}
use Rattle.elf_form.specs.Fields.{field}
use Rattle.line_table.specs.Reading.{fault, fault_where, first_fault, unless_fault}
use Rattle.line_table.specs.declared.fault.FaultKind.TheVariants.{Truncated, BadLength, BadVersion, BadAddressSize, BadOperations, BadLineRange, BadOpcodeBase}
use Rattle.line_table.specs.declared.fault.LineFault.{LineFault}
use Rattle.line_table.specs.declared.unit.UnitHeader.{UnitHeader}

-- ---- where its fields are

-- unit_length, and the place after the unit
abbrev pub unit_length : List ℕ → ℕ → ℕ
unit_length b at = field 4 b at

abbrev pub unit_end : List ℕ → ℕ → ℕ
unit_end b at = at + 4 + unit_length b at

abbrev pub version : List ℕ → ℕ → ℕ
version b at = field 2 b (at + 4)

-- the place of header_length: address_size and segment_selector_size stand before it in version 5
abbrev pub length_place : List ℕ → ℕ → ℕ
length_place b at = if version b at == 5 then at + 8 else at + 6

-- where the line program begins
abbrev pub program_place : List ℕ → ℕ → ℕ
program_place b at = length_place b at + 4 + field 4 b (length_place b at)

-- a number of 8 bits with its sign, as two's complement of 32 bits
abbrev pub signed_byte : ℕ → ℕ
signed_byte n = if nat_lt n 128 then n else n + (2 ^ 32 - 256)

-- the fields after header_length: minimum_instruction_length, maximum_operations_per_instruction, default_is_stmt,
-- line_base, line_range, opcode_base, standard_opcode_lengths
abbrev pub header_at : List ℕ → ℕ → ℕ → UnitHeader
header_at b at fields = record {
  at = at;
  version = version b at;
  instruction_length = field 1 b fields;
  line_base = signed_byte (field 1 b (fields + 3));
  line_range = field 1 b (fields + 4);
  opcode_base = field 1 b (fields + 5);
  opcode_lengths = fields + 6;
  program = program_place b at;
  end = unit_end b at;
}

abbrev pub header_of : List ℕ → ℕ → UnitHeader
header_of b at = header_at b at (length_place b at + 4)

-- where the directories and files begin: standard_opcode_lengths has a byte for each opcode from 1 to before opcode_base
abbrev pub tables_place : UnitHeader → ℕ
tables_place h = h.opcode_lengths + (h.opcode_base - 1)

-- ---- what is wrong

abbrev pub is_known : ℕ → Bool
is_known v = (v == 4) || (v == 5)

-- addresses of 8 bytes, and no segments
abbrev pub has_bad_sizes : List ℕ → ℕ → Bool
has_bad_sizes b at = (version b at == 5) && not ((field 1 b (at + 6) == 8) && (field 1 b (at + 7) == 0))

-- the first fault of where a unit ends, and of its version
abbrev pub extent_fault : List ℕ → ℕ → Option LineFault
extent_fault b at =
    first_fault (fault_where (nat_lt (length b) (at + 4)) (fault at Truncated)
    ∷ fault_where (nat_le 0xfffffff0 (unit_length b at)) (fault at BadLength)
    ∷ fault_where (nat_lt (length b) (unit_end b at)) (fault at Truncated)
    ∷ fault_where (nat_lt (unit_length b at) 2) (fault (at + 4) Truncated)
    ∷ fault_where (not (is_known (version b at))) (fault (at + 4) BadVersion)
    ∷ [])

-- the first fault of the fields of a header, of which header_length is at this place
abbrev pub fields_fault : List ℕ → UnitHeader → ℕ → Option LineFault
fields_fault b h place =
    first_fault (fault_where (has_bad_sizes b h.at) (fault (h.at + 6) BadAddressSize)
    ∷ fault_where (nat_lt h.end h.program) (fault place Truncated)
    ∷ fault_where (not (field 1 b (place + 5) == 1)) (fault (place + 5) BadOperations)
    ∷ fault_where (h.line_range == 0) (fault (place + 8) BadLineRange)
    ∷ fault_where (h.opcode_base == 0) (fault (place + 9) BadOpcodeBase)
    ∷ fault_where (nat_lt h.program (tables_place h)) (fault (place + 10) Truncated)
    ∷ [])

-- the first fault of the header of the unit at a place
unfoldable pub header_fault : List ℕ → ℕ → Option LineFault
header_fault b at =
    first_fault (extent_fault b at
    ∷ fault_where (nat_lt (unit_end b at) (length_place b at + 10)) (fault (at + 6) Truncated)
    ∷ fields_fault b (header_of b at) (length_place b at)
    ∷ [])

-- the header of the unit at a place, or its first fault
unfoldable pub header : List ℕ → ℕ → Result UnitHeader LineFault
header b at = unless_fault (header_fault b at) (header_of b at)
