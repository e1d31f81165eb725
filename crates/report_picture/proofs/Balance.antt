-- As many nodes are ended as begun.
use Rattle.std.proofs.Common.{◌≡◌, ◌+◌, ◌-◌, ◌≤◌, ◌<◌, ℕ, suc, Bool, true, false, List, [], ◌∷◌, ◌++◌, refl, ap, sym, ◌∙◌, zero-add, arith}
use Rattle.std.specs.Prelude.{if◌then◌else◌, nat_lt, slice_get, sum_by, Option, Some, None}
use Rattle.std.proofs.lemmas.Bool.Decides.{nat_tests}
use Rattle.std.proofs.lemmas.List.Sums.{sum_by-cons}
use Rattle.report.specs.declared.parts.NodePart.{NodePart}
use Rattle.report_view.specs.Laws.{StandsBelow}
use Rattle.report_view.specs.Searches.{phase_with}
use Rattle.report_view.specs.Trees.{truth_tree}
use Rattle.report_view.specs.declared.tree_row.TreeRow.{TreeRow}
use Rattle.report_view.proofs.Parents.{parents_above}
use Rattle.report_picture.specs.Laws.{DetailsBalance, begun, ended}
use Rattle.report_picture.specs.TreeLines.{begins_phase, first_depth, lines_from}
use Rattle.report_picture.specs.declared.tree_line.TreeLine.{TreeLine}
use Rattle.report_picture.specs.declared.tree_line.TreeLine.TheVariants.{Phase, Node}

-- ---- a row is at most one step deeper than the row before

abbrev Steps : List TreeRow → Type 0
Steps rows = (i : ℕ) (row next : TreeRow) → slice_get rows i ≡ Some row → slice_get rows (suc i) ≡ Some next → next.depth ≤ row.depth + 1

same_depth : (rows : List TreeRow) (i : ℕ) (row above : TreeRow) → slice_get rows i ≡ Some row → slice_get rows i ≡ Some above → row.depth ≡ above.depth
same_depth rows i row above e f = let g : row ≡ above = cc in ap (λ (r : TreeRow). r.depth) g

one_step : (parts : List NodePart) (rows : List TreeRow) (i : ℕ) (row next : TreeRow) → slice_get rows i ≡ Some row → StandsBelow parts rows (suc i) next → next.depth ≤ row.depth + 1
one_step parts rows i row next e s =
    elim (nat_lt s.place i) as (λ b. nat_lt s.place i ≡ b → next.depth ≤ row.depth + 1) [
      | true ↦ (λ t. let l : s.place < i = grind (arith, nat_tests) in let m = s.between i row l (omega arith) e in let p = s.step in omega arith)
      | false ↦ (λ t.
          let le : i ≤ s.place = grind (arith, nat_tests) in
          let before = s.before in
          let at : s.place ≡ i = omega arith in
          let d = same_depth rows i row s.above e (ap (slice_get rows) (sym at) ∙ s.there) in
          let p = s.step in
          omega arith)
    ] refl

steps : (parts : List NodePart) (rows : List TreeRow)
    → ((i : ℕ) (row : TreeRow) → slice_get rows i ≡ Some row → 0 < row.depth → StandsBelow parts rows i row) → Steps rows
steps parts rows law i row next e f =
    elim (nat_lt 0 next.depth) as (λ b. nat_lt 0 next.depth ≡ b → next.depth ≤ row.depth + 1) [
      | true ↦ (λ t. one_step parts rows i row next e (law (suc i) next f (grind (arith, nat_tests))))
      | false ↦ (λ t. let none : next.depth ≤ 0 = grind (arith, nat_tests) in omega arith)
    ] refl

first_is_root : (parts : List NodePart) (rows : List TreeRow)
    → ((i : ℕ) (row : TreeRow) → slice_get rows i ≡ Some row → 0 < row.depth → StandsBelow parts rows i row) → first_depth rows ≡ 0
first_is_root parts [] law = refl
first_is_root parts (row ∷ rows) law =
    elim (nat_lt 0 row.depth) as (λ b. nat_lt 0 row.depth ≡ b → row.depth ≡ 0) [
      | true ↦ (λ t. let s = law 0 row refl (grind (arith, nat_tests)) in let before = s.before in absurd (omega arith))
      | false ↦ (λ t. let none : row.depth ≤ 0 = grind (arith, nat_tests) in omega arith)
    ] refl

-- ---- sums

no_phase : (f : TreeLine → ℕ) (b : Bool) (number : ℕ) (lines : List TreeLine) → f (Phase number) ≡ 0
    → sum_by f ((if b then Phase number ∷ [] else []) ++ lines) ≡ sum_by f lines
no_phase f true number lines e = sum_by-cons f (Phase number) lines ∙ ap (λ n. n + sum_by f lines) e ∙ zero-add (sum_by f lines)
no_phase f false number lines e = refl

one_more : (depth next begins ends : ℕ) → next ≤ depth + 1 → next + begins ≡ ends → depth + ((if nat_lt depth next then 1 else 0) + begins) ≡ (depth - next) + ends
one_more depth next begins ends le e =
    elim (nat_lt depth next) as (λ b. nat_lt depth next ≡ b → depth + ((if b then 1 else 0) + begins) ≡ (depth - next) + ends) [
      | true ↦ (λ t. let l : depth < next = grind (arith, nat_tests) in omega arith)
      | false ↦ (λ t. let l : next ≤ depth = grind (arith, nat_tests) in omega arith)
    ] refl

next_step : (row : TreeRow) (rows : List TreeRow) → Steps (row ∷ rows) → first_depth rows ≤ row.depth + 1
next_step row [] steps = omega arith
next_step row (next ∷ rows) steps = steps 0 row next refl refl

balance : (parts : List NodePart) (before : Option (List ℕ)) (rows : List TreeRow) → Steps rows
    → first_depth rows + sum_by begun (lines_from parts before rows) ≡ sum_by ended (lines_from parts before rows)
balance parts before [] steps = refl
balance parts before (row ∷ rows) steps =
    let part = slice_get parts row.number in
    let lines = lines_from parts (phase_with before row.depth part) rows in
    let all = Node row.number row.depth (first_depth rows) ∷ lines in
    let later = balance parts (phase_with before row.depth part) rows (λ i a b. steps (suc i) a b) in
    let both = one_more row.depth (first_depth rows) (sum_by begun lines) (sum_by ended lines) (next_step row rows steps) later in
    let node = Node row.number row.depth (first_depth rows) in
    let b = no_phase begun (begins_phase before row.depth part) row.number all refl ∙ sum_by-cons begun node lines in
    let e = no_phase ended (begins_phase before row.depth part) row.number all refl ∙ sum_by-cons ended node lines in
    ap (λ n. row.depth + n) b ∙ both ∙ sym e

pub balanced : DetailsBalance
balanced parts =
    let law = parents_above parts in
    let first = first_is_root parts (truth_tree parts) law in
    let sums = balance parts None (truth_tree parts) (steps parts (truth_tree parts) law) in
    omega arith
