use Rattle.std.proofs.Common.{◌≡◌, ℕ, List, Option, ◌++◌, ap, ◌∙◌}
use Rattle.std.specs.Prelude.{option_map}
use Rattle.profile_text.specs.ProcedureRows.{rows_in}
use Rattle.profile_text.specs.Rows.{Row, rows_named, rows_of}
use Rattle.profile_text.specs.declared.procedure_row.ProcedureRow.{ProcedureRow}
use Rattle.profile_text.proofs.Joins.{same_text}
use Rattle.source_text.specs.Sources.{by_place}
use Rattle.source_text.specs.Text.{sourced_procedures, sourced_text}
use Rattle.source_text.proofs.text.sourced_text.Goals as goal
use denote.Ref.{Bor}

pub returns : goal.returns
returns c =
    let t = c.in_ok-text.text in
    let elf = c.args.lines.now.elf.now in
    let units = c.args.lines.now.units.now in
    let table = c.args.lines.now.table.now.rows in
    let o : Option (List ℕ) = option_map (λ (s : Bor (List ℕ)). s.now) c.args.name in
    let rows : rows_in c.deref-2.result.now ≡ rows_named o (rows_of t.image.now t.procs.now t.profile.now)
    = ap (λ (z : List ProcedureRow). rows_in z) c.deref-2.ensures.value
    ∙ c.in_ok-chosen.ensures.rows
    ∙ ap (λ (z : List ProcedureRow). rows_named o (rows_in z)) c.deref.ensures.value
    ∙ ap (λ (z : List Row). rows_named o z) c.in_ok-rows.ensures.rows in
    c.in_ok-add_text.ensures
    ∙ ap (λ (z : List ℕ). z ++ sourced_procedures elf units (by_place table) t.image.now t.profile.now 0 (rows_in c.deref-2.result.now)) c.new-out.ensures.items
    ∙ ap (λ (z : List Row). sourced_procedures elf units (by_place table) t.image.now t.profile.now 0 z) rows
    ∙ same_text (λ image procs r. sourced_text elf units table image procs r o) t.image.now c.args.image.now t.procs.now c.args.procs.now t.profile.now c.args.profile.now
    c.in_ok-text.ensures.image c.in_ok-text.ensures.procs c.in_ok-text.ensures.profile
