-- For proofs alone: rows as they are kept.
use Rattle.std.specs.Prelude.{List, map}
use Rattle.profile_text.specs.Rows.{Row}
use Rattle.profile_text.specs.declared.procedure_row.ProcedureRow.{ProcedureRow}

abbrev pub row_of : ProcedureRow → Row
row_of x = record { proc = x.proc.now; entered = x.entered; ticks = x.ticks }

abbrev pub rows_in : List ProcedureRow → List Row
rows_in rows = map row_of rows
