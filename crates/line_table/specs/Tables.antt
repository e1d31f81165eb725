-- What all units give.
use Rattle.std.specs.Prelude.{ℕ, zero, suc, nat_le, if◌then◌else◌, List, [], ◌++◌, Result, Ok, length, take}
use Rattle.line_table.specs.Reading.{◌>>=◌}
use Rattle.line_table.specs.Units.{header}
use Rattle.line_table.specs.Programs.{program_rows}
use Rattle.line_table.specs.declared.fault.LineFault.{LineFault}
use Rattle.line_table.specs.declared.registers.Row.{Row}
use Rattle.line_table.specs.declared.unit.UnitHeader.{UnitHeader}

-- What the units from a place on give, one after the other, of which there are at most n. Since each has four bytes or
-- more, n is never too small where it is the number of bytes.
abbrev pub units_from : {A : Type 0} → (UnitHeader → Result (List A) LineFault) → ℕ → List ℕ → ℕ → Result (List A) LineFault
units_from of_unit zero b at = Ok []
units_from of_unit (suc n) b at =
    if nat_le (length b) at then Ok [] else
    (header b at >>= λ h. of_unit h >>= λ items. units_from of_unit n b h.end >>= λ more. Ok (items ++ more))

abbrev pub rows_of_unit : List ℕ → UnitHeader → Result (List Row) LineFault
rows_of_unit b h = program_rows h (take h.end b)

-- the rows of `.debug_line`
unfoldable pub rows_of : List ℕ → Result (List Row) LineFault
rows_of b = units_from (rows_of_unit b) (length b) b 0
