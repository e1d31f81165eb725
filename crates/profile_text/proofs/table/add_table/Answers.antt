use Rattle.std.proofs.Common.{◌≡◌, ℕ, List, ◌++◌, length, ap, ◌∙◌, arith}
use Rattle.std.specs.Prelude.{codes, sum_by}
use Rattle.profile_text.specs.ProcedureRows.{rows_in}
use Rattle.profile_text.specs.Rows.{Row, rows_of}
use Rattle.profile_text.specs.Table.{heading, other_line, table_rows, total_line}
use Rattle.profile_text.specs.Totals.{ticks_of, ticks_of_none, ticks_outside}
use Rattle.profile_text.proofs.Adding.{rows_add_up}
use Rattle.profile_text.proofs.Joins.{join}
use Rattle.profile_text.proofs.table.add_table.Goals as goal

pub add_rows-requires : goal.add_rows-requires
add_rows-requires c =
    let t = c.args.text.now in
    let all = rows_add_up t.image.now t.procs.now t.profile.now c.requires.text.ascend c.requires.text.fits in
    let small = c.requires.text.fits.small in
    let same = ap (sum_by (λ (x : Row). x.ticks)) c.requires.rows in
    omega arith

pub returns : goal.returns
returns c =
    let image = c.args.text.now.image.now in
    let procs = c.args.text.now.procs.now in
    let r = c.args.text.now.profile.now in
    let old = c.args.out.now.items in
    let top = c.args.top in
    let all = ticks_of r in
    let one = c.ticks_of-all.result in
    let is : one ≡ all = c.ticks_of-all.ensures in
    let a = total_line all (length r.counts.ticks) r.untold in
    let b = table_rows all top (rows_of image procs r) in
    let d = other_line all (ticks_of_none image procs r) (codes "in no procedure") in
    let e = other_line all (ticks_outside image r) (codes "outside of the text") in
    let f = other_line all r.untold (codes "untold") in
    let o1 = c.add_total.new.out.items in
    let o2 = c.add_heading.new.out.items in
    let o3 = c.add_rows.new.out.items in
    let o4 = c.add_other.new.out.items in
    let o5 = c.add_other-2.new.out.items in
    let o6 = c.add_other-3.new.out.items in
    let e1 : o1 ≡ old ++ a = c.in_ok-add_total.ensures ∙ ap (λ (ts : List ℕ). old ++ total_line one (length ts) r.untold) c.as_slice-harts.ensures ∙ ap (λ (n : ℕ). old ++ total_line n (length r.counts.ticks) r.untold) is in
    let e2 : o2 ≡ o1 ++ heading = c.in_ok-add_heading.ensures in
    let e3 : o3 ≡ o2 ++ b = c.in_ok-add_rows.ensures ∙ ap (λ (n : ℕ). o2 ++ table_rows n top (rows_in c.args.rows.now)) is ∙ ap (λ (z : List Row). o2 ++ table_rows all top z) c.requires.rows in
    let e4 : o4 ≡ o3 ++ d = c.in_ok-add_other.ensures ∙ ap (λ (n : ℕ). o3 ++ other_line n c.ticks_of_none.result (codes "in no procedure")) is ∙ ap (λ (n : ℕ). o3 ++ other_line all n (codes "in no procedure")) c.ticks_of_none.ensures in
    let e5 : o5 ≡ o4 ++ e = c.in_ok-add_other-2.ensures ∙ ap (λ (n : ℕ). o4 ++ other_line n c.ticks_outside.result (codes "outside of the text")) is ∙ ap (λ (n : ℕ). o4 ++ other_line all n (codes "outside of the text")) c.ticks_outside.ensures in
    let e6 : o6 ≡ o5 ++ f = c.in_ok-add_other-3.ensures ∙ ap (λ (n : ℕ). o5 ++ other_line n r.untold (codes "untold")) is in
    join old o5 o6 ((((a ++ heading) ++ b) ++ d) ++ e) f
    (join old o4 o5 (((a ++ heading) ++ b) ++ d) e
    (join old o3 o4 ((a ++ heading) ++ b) d
    (join old o2 o3 (a ++ heading) b
    (join old o1 o2 a heading e1 e2) e3) e4) e5) e6
