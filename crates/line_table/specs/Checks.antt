-- For proofs alone: what the checks leave true of a unit's header, and what is appended.
use Rattle.std.specs.Prelude.{◌≡◌, ℕ, ◌<◌, ◌≤◌, List, ◌++◌, Result, Ok, Err}
use Rattle.line_table.specs.Reading.{◌>>=◌, Refuses}
use Rattle.line_table.specs.declared.fault.LineError.{LineError}
use Rattle.line_table.specs.declared.fault.LineFault.{LineFault}
use Rattle.line_table.specs.declared.registers.Row.{Row}
use Rattle.line_table.specs.Units.{tables_place}
use Rattle.line_table.specs.declared.unit.UnitHeader.{UnitHeader}

-- the header is that of a unit in a section of `len` bytes
pub record Fits (len : ℕ) (h : UnitHeader) : Type 0 where
  pub forward : h.at < h.end
  pub within : h.end ≤ len
  pub program : h.program ≤ h.end
  pub tables : tables_place h ≤ h.program
  pub range : 1 ≤ h.line_range
  pub base : 1 ≤ h.opcode_base

-- the header's tables begin within its first `len` bytes, where its program begins
pub record FitsPaths (len : ℕ) (h : UnitHeader) : Type 0 where
  pub tables : tables_place h ≤ len
  pub base : 1 ≤ h.opcode_base
  pub lengths : h.opcode_lengths ≤ len

-- items in front of those that are read
abbrev pub with_front : {A : Type 0} → List A → Result (List A) LineFault → Result (List A) LineFault
with_front front read = read >>= λ items. Ok (front ++ items)

-- the rows that a call appends are those that are read, unless memory runs out
abbrev pub Appends : {A : Type 0} → List Row → List Row → Result A LineError → Result (List Row) LineFault → Type 0
Appends old new (Ok _) read = with_front old read ≡ Ok new
Appends old new (Err e) read = Refuses e read
