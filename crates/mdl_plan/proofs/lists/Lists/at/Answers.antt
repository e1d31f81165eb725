use Rattle.std.proofs.Common.{◌≡◌, [], List, ℕ, get_or, map, ap, sym, ◌∙◌}
use Rattle.mdl_plan.specs.Sparse.{row_at}
use Rattle.mdl_plan.specs.declared.lists.Row.{Row}
use Rattle.mdl_plan.proofs.SparseLists.{row_is}
use Rattle.mdl_plan.proofs.lists.Lists.at.Goals as goal

pub returns-in-Some : goal.returns-in-Some
returns-in-Some c =
    let numbers = c.self.inside.row_of.items in
    let rows = map (λ (r : Row). r.numbers.items) c.self.inside.rows.items in
    let q = c.args.proc_no in
    let row : c.in-Some.row.now ≡ get_or numbers q 0 = c.in-Some.ensures.lookup.3.1 0 ∙ ap (λ (ns : List ℕ). get_or ns q 0) c.deref.ensures.value in
    c.numbers_of.ensures
    ∙ ap (λ (rs : List Row). row_at (map (λ r. r.numbers.items) rs) c.in-Some.row.now) c.deref-in-Some.ensures.value
    ∙ ap (row_at rows) row
    ∙ sym (row_is numbers rows q)
    ∙ ap (λ (lists : List (List ℕ)). get_or lists q []) c.self.view_is
