use Rattle.std.proofs.Common.{rules, ◌≡◌, ◌+◌, ◌-◌, ◌<◌, ◌∷◌, [], ◌++◌, List, ℕ, length, get_or, map, set, ap, subst, sym, ◌∙◌, arith}
use Rattle.std.specs.Vec.{with_items}
use Rattle.std.proofs.lemmas.Grind.{get_or_default_zero}
use Rattle.std.proofs.lemmas.List.{length-map, length_push, with_items_is}
use Rattle.std.proofs.lemmas.Result.{on_ok_weaker}
use Rattle.mdl_plan.specs.Numbers.{Marked, once}
use Rattle.mdl_plan.specs.Sparse.{AreOwn, rows_of}
use Rattle.mdl_plan.specs.declared.lists.Row.{Row}
use Rattle.mdl_plan.proofs.SparseLists.{mark_new, mark_row, own_new, own_row}
use Rattle.mdl_plan.proofs.lists.Lists.mark.Goals as goal

-- the owners of rows, and their numbers
abbrev owners_of : List Row → List ℕ
owners_of rows = map (λ r. r.proc_no) rows

abbrev lists_of : List Row → List (List ℕ)
lists_of rows = map (λ r. r.numbers.items) rows

many : (rows : List Row) → length (lists_of rows) ≡ length (owners_of rows)
many rows = simp length-map

pub push_at-requires : goal.push_at-requires
push_at-requires c =
    let numbers = c.self.inside.row_of.items in
    let rows = c.self.inside.rows.items in
    let q = c.args.proc_no in
    let n = c.index-row.result.now in
    let lt : q < length numbers = omega (arith, c.if-place-len.false, c.len.ensures, c.self.inside.row_of.ok.0) in
    let is : get_or numbers q 0 ≡ n = sym (c.index-row.ensures ∙ get_or_default_zero numbers q n lt) in
    omega (arith, own_row numbers (owners_of rows) (lists_of rows) c.self.invariant (many rows) q n is c.if-row-gt0.true, length-map rows (λ (r : Row). r.numbers.items), ap (λ (l : List Row). length l) c.deref_mut.ensures.value)

pub returns-then-row-gt0 : goal.returns-then-row-gt0
returns-then-row-gt0 c =
    let numbers = c.self.inside.row_of.items in
    let rows = c.self.inside.rows.items in
    let i = c.args.number in
    let q = c.args.proc_no in
    let n = c.index-row.result.now in
    let lt : q < length numbers = omega (arith, c.if-place-len.false, c.len.ensures, c.self.inside.row_of.ok.0) in
    let is : get_or numbers q 0 ≡ n = sym (c.index-row.ensures ∙ get_or_default_zero numbers q n lt) in
    let changed = ap (λ (rs : List Row). lists_of rs) (with_items_is c.self.inside.rows c.push_at.new.rows (search rules)) in
    on_ok_weaker c.push_at.result
    (λ pushed.
    subst (λ (old : List (List ℕ)). Marked i (q ∷ []) old (rows_of numbers (lists_of (with_items c.self.inside.rows c.push_at.new.rows).items))) c.self.view_is
    (subst (λ (new : List (List ℕ)). Marked i (q ∷ []) (rows_of numbers (lists_of rows)) (rows_of numbers new))
    (sym (changed ∙ pushed ∙ ap (λ (rs : List Row). set (lists_of rs) (n - 1) (once i (get_or (lists_of rs) (n - 1) []))) c.deref_mut.ensures.value))
    (mark_row numbers (owners_of rows) (lists_of rows) c.self.invariant (many rows) q n i is c.if-row-gt0.true)))
    c.push_at.ensures.pushed

-- how many rows there are with one more
one_more : (rows new : List Row) (q n : ℕ) → n ≡ length new → owners_of new ≡ owners_of rows ++ q ∷ [] → n ≡ length (lists_of rows) + 1
one_more rows new q n is e = omega (arith, is, length-map new (λ (r : Row). r.proc_no), ap (λ (l : List ℕ). length l) e, length_push (owners_of rows) q, many rows)

pub invariant_of-self-2 : goal.invariant_of-self-2
invariant_of-self-2 c =
    let numbers = c.self.inside.row_of.items in
    let rows = c.self.inside.rows.items in
    let new = c.add_row.new.rows.items in
    let q = c.args.proc_no in
    let n = c.len-2.result in
    let lt : q < length numbers = omega (arith, c.if-place-len.false, c.len.ensures, c.self.inside.row_of.ok.0) in
    let is : n ≡ length new = omega (arith, c.len-2.ensures, c.add_row.new.rows.ok.0) in
    subst (AreOwn (set numbers q n)) (sym c.in_ok-add_row.ensures.owner)
    (own_new numbers (owners_of rows) (lists_of rows) c.self.invariant (many rows) q n lt (one_more rows new q n is c.in_ok-add_row.ensures.owner))

pub returns : goal.returns
returns c =
    let numbers = c.self.inside.row_of.items in
    let rows = c.self.inside.rows.items in
    let new = c.add_row.new.rows.items in
    let i = c.args.number in
    let q = c.args.proc_no in
    let n = c.len-2.result in
    let lt : q < length numbers = omega (arith, c.if-place-len.false, c.len.ensures, c.self.inside.row_of.ok.0) in
    let is : n ≡ length new = omega (arith, c.len-2.ensures, c.add_row.new.rows.ok.0) in
    let none : get_or numbers q 0 ≡ 0 = omega (arith, c.index-row.ensures, get_or_default_zero numbers q c.index-row.result.now lt, c.if-row-gt0.false) in
    subst (λ (old : List (List ℕ)). Marked i (q ∷ []) old (rows_of (set numbers q n) (lists_of new))) c.self.view_is
    (subst (λ (k : ℕ). Marked i (q ∷ []) (rows_of numbers (lists_of rows)) (rows_of (set numbers q k) (lists_of new))) (sym (one_more rows new q n is c.in_ok-add_row.ensures.owner))
    (subst (λ (ls : List (List ℕ)). Marked i (q ∷ []) (rows_of numbers (lists_of rows)) (rows_of (set numbers q (length (lists_of rows) + 1)) ls)) (sym c.in_ok-add_row.ensures.added)
    (mark_new numbers (owners_of rows) (lists_of rows) c.self.invariant (many rows) q i lt none)))
