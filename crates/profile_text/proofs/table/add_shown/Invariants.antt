use Rattle.std.proofs.Common.{◌≡◌, ◌++◌, drop, flat_map}
use Rattle.profile_text.specs.ProcedureRows.{rows_in}
use Rattle.profile_text.specs.Table.{row_line}
use Rattle.profile_text.proofs.table.add_shown.Given as goal

-- what is written, and the lines that are left, make all the lines
abbrev pub invariant-loop-row : goal.invariant-loop-row
invariant-loop-row l = l.out.items ++ flat_map (row_line l.all) (rows_in (drop l.row-index l.rows)) ≡ l.initial.out.items ++ flat_map (row_line l.all) (rows_in l.rows)
