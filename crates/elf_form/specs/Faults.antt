-- Checks, each of which gives a fault or none.
use Rattle.std.specs.Prelude.{ℕ, ◌+◌, ◌&&◌, nat_lt, Bool, true, false, Option, Some, None, List, [], ◌∷◌}
use Rattle.elf_form.specs.declared.fault.ElfFault.{ElfFault}

-- the fault, where the test holds
abbrev pub fault_where : Bool → ElfFault → Option ElfFault
fault_where true fault = Some fault
fault_where false fault = None

-- what the first check gives that gives a fault
abbrev pub first_fault : List (Option ElfFault) → Option ElfFault
first_fault [] = None
first_fault (None ∷ checks) = first_fault checks
first_fault (Some fault ∷ checks) = Some fault

-- a part of a file reaches past its length; a part of size 0 never does, wherever it lies
abbrev pub reaches_past : ℕ → ℕ → ℕ → Bool
reaches_past at size len = nat_lt 0 size && nat_lt len (at + size)
