use Rattle.std.proofs.Common.{◌≡◌, ◌++◌, drop}
use Rattle.profile_text.specs.Annotated.{annotated_rows}
use Rattle.profile_text.specs.ProcedureRows.{rows_in}
use Rattle.profile_text.proofs.annotating.add_procedures.Given as goal

-- what is written, and the procedures that are left, make all
abbrev pub invariant-loop-place : goal.invariant-loop-place
invariant-loop-place l =
    l.out.items ++ annotated_rows l.notes.text.now.image.now l.notes.text.now.procs.now l.notes.heads.now l.notes.text.now.profile.now l.place (rows_in (drop l.place l.rows))
    ≡ l.initial.out.items ++ annotated_rows l.notes.text.now.image.now l.notes.text.now.procs.now l.notes.heads.now l.notes.text.now.profile.now 0 (rows_in l.rows)
