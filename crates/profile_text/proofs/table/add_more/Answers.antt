use Rattle.std.proofs.Common.{◌≡◌, ℕ, suc, List, [], ◌∷◌, ◌++◌, length, refl, ap, sym, ◌∙◌, arith}
use Rattle.std.specs.Prelude.{sum_by}
use Rattle.std.proofs.lemmas.Bool.Decides.{nat_tests}
use Rattle.std.proofs.lemmas.List.{length-map}
use Rattle.profile_text.specs.ProcedureRows.{row_of, rows_in}
use Rattle.profile_text.specs.Table.{more_line, more_row}
use Rattle.profile_text.specs.declared.procedure_row.ProcedureRow.{ProcedureRow}
use Rattle.profile_text.proofs.table.add_more.Goals as goal

more_is : (all : ℕ) (rows : List ProcedureRow) → (length rows ≡ 0 → ⊥) → more_row all (sum_by (λ x. x.ticks) (rows_in rows)) (length rows) ≡ more_line all (rows_in rows)
more_is all [] h = absurd (h refl)
more_is all (x ∷ xs) h = ap (λ n. more_row all (sum_by (λ x. x.ticks) (rows_in (x ∷ xs))) (suc n)) (sym (length-map xs row_of))

pub returns : goal.returns
returns c =
    let rows = c.args.rows.now in
    let old = c.args.out.now.items in
    let a = c.if-is_empty.false in
    let b = c.is_empty.ensures in
    c.in_ok-add_more_row.ensures ∙ ap (λ (n : ℕ). old ++ more_row c.args.all n (length rows)) c.total.ensures
    ∙ ap (λ (z : List ℕ). old ++ z) (more_is c.args.all rows (λ e. grind (arith, nat_tests)))
