-- A writer of csv over a vector, and the cells that it is given.
use Rattle.std.specs.Prelude.{◌≡◌, ℕ, Option, Some, None, List, [], ◌∷◌, ◌++◌, Vec, false}
use Rattle.std.specs.declared.alloc.Global.{Global}
use Rattle.csv.specs.Writing.{default_writer, fields_written, has_written, writer_pending, writer_setup, writer_under}
use Rattle.report_csv.specs.declared.cells.Cells.{Cells}
use Rattle.csv.specs.declared.writer.Writer.{Writer}

-- it stands between two rows, and has the crate's defaults
abbrev pub IsBetween : Writer (Vec ℕ Global) → Type 0
IsBetween w = (fields_written w ≡ 0) × (has_written w ≡ false) × (writer_setup w ≡ default_writer)

-- what was written so far: the vector, and what is still to be put there
abbrev pub written : Writer (Vec ℕ Global) → List ℕ
written w = (writer_under w).items ++ writer_pending w

-- a cell that a kind of rows has no use for is empty
abbrev pub cell_bytes : Option (Vec ℕ Global) → List ℕ
cell_bytes None = []
cell_bytes (Some bytes) = bytes.items

abbrev pub cells_row : Cells → List (List ℕ)
cells_row c =
    c.kind.now ∷ cell_bytes c.number ∷ cell_bytes c.name ∷ cell_bytes c.focus ∷ cell_bytes c.units ∷ cell_bytes c.phase ∷ cell_bytes c.parent
    ∷ cell_bytes c.state ∷ cell_bytes c.samples ∷ cell_bytes c.from ∷ cell_bytes c.to ∷ cell_bytes c.value ∷ cell_bytes c.ticks
    ∷ cell_bytes c.pc ∷ cell_bytes c.text ∷ []
