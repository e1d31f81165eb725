-- The checks on the ELF header, in their order (System V ABI: ELF header; RISC-V ABI: file header).
use Rattle.std.specs.Prelude.{ℕ, ◌*◌, ◌%◌, ◌==◌, ◌&&◌, ◌||◌, not, nat_lt, nat_le, Bool, Option, List, [], ◌∷◌, length}
use Rattle.elf_form.specs.Fields.{field, header_of}
use Rattle.elf_form.specs.Faults.{fault_where, first_fault, reaches_past}
use Rattle.elf_form.specs.declared.fault.ElfFault.{ElfFault}
use Rattle.elf_form.specs.declared.fault.ElfFault.TheVariants.{NotElf, Short, NotRiscv64, Flags}
use Rattle.elf_form.specs.declared.header.Header.{Header}

-- the file begins with 7F 45 4C 46 (EI_MAG0 to EI_MAG3)
abbrev pub begins_as_elf : List ℕ → Bool
begins_as_elf b = nat_le 4 (length b) && (field 4 b 0 == 0x464c457f)

-- ELFCLASS64, ELFDATA2LSB, ET_EXEC, EM_RISCV, and each table is empty or has entries of the standard's size
abbrev pub is_riscv64 : Header → Bool
is_riscv64 h =
    (h.class == 2) && (h.data_encoding == 1) && (h.kind == 2) && (h.machine == 243)
    && ((h.program_header_count == 0) || (h.program_header_size == 56)) && ((h.section_header_count == 0) || (h.section_header_size == 64))

-- one of the bits 0x1 (RVC), 0x6 (float ABI) and 0x8 (RVE) of e_flags is set
abbrev pub has_bad_flags : Header → Bool
has_bad_flags h = not (h.flags % 16 == 0)

-- a header table reaches past the end of a file of `len` bytes
abbrev pub has_short_tables : Header → ℕ → Bool
has_short_tables h len =
    reaches_past h.program_headers (h.program_header_count * 56) len || reaches_past h.section_headers (h.section_header_count * 64) len

-- the first fault of the header
unfoldable pub header_fault : List ℕ → Option ElfFault
header_fault b =
    first_fault (fault_where (not (begins_as_elf b)) NotElf
    ∷ fault_where (nat_lt (length b) 64) (Short (length b))
    ∷ fault_where (not (is_riscv64 (header_of b))) NotRiscv64
    ∷ fault_where (has_bad_flags (header_of b)) (Flags (header_of b).flags)
    ∷ fault_where (has_short_tables (header_of b) (length b)) (Short (length b))
    ∷ [])
