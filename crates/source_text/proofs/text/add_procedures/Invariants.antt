use Rattle.std.proofs.Common.{◌≡◌, ◌++◌, drop}
use Rattle.profile_text.specs.ProcedureRows.{rows_in}
use Rattle.source_text.specs.Text.{sourced_procedures}
use Rattle.source_text.proofs.text.add_procedures.Given as goal

-- what is written, and the procedures that are left, make all
abbrev pub invariant-loop-place : goal.invariant-loop-place
invariant-loop-place l =
    l.out.items ++ sourced_procedures l.text.lines.now.elf.now l.text.lines.now.units.now l.text.rows.items l.text.text.now.image.now l.text.text.now.profile.now l.place (rows_in (drop l.place l.rows))
    ≡ l.initial.out.items ++ sourced_procedures l.text.lines.now.elf.now l.text.lines.now.units.now l.text.rows.items l.text.text.now.image.now l.text.text.now.profile.now 0 (rows_in l.rows)
