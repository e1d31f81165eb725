-- How deep the rows of a tree are.
use Rattle.std.proofs.Common.{◌≡◌, ◌+◌, ◌^◌, ◌≤◌, ◌<◌, ℕ, zero, suc, length, get_or, Bool, true, false, List, [], ◌∷◌, ◌++◌, drop, ap, sym, subst, ◌∙◌, add-one, drop-cons, arith}
use Rattle.std.specs.Prelude.{◌==◌, nat_lt, if◌then◌else◌, Option, Some, None}
use Rattle.std.specs.List.{AllByRecursion}
use Rattle.report.specs.declared.parts.NodePart.{NodePart}
use Rattle.report_view.specs.Trees.{behind_deeper, below_parent, was_true, tree_from, truth_tree, with_true_node, with_parent}
use Rattle.report_view.specs.declared.tree_row.TreeRow.{TreeRow}

-- what holds of both of two lists holds of one of them
pub either : (P : List TreeRow → Type 0) (b : Bool) (xs ys : List TreeRow) → P xs → P ys → P (if b then xs else ys)
either P true xs ys p q = p
either P false xs ys p q = q

pub weaker : (P Q : TreeRow → Type 0) → ((r : TreeRow) → P r → Q r) → (rows : List TreeRow) → AllByRecursion P rows → AllByRecursion Q rows
weaker P Q f [] h = tt
weaker P Q f (r ∷ rows) h = (f r h.0, weaker P Q f rows h.1)

last_too : (P : TreeRow → Type 0) (row : TreeRow) (rows : List TreeRow) → P row → AllByRecursion P rows → AllByRecursion P (rows ++ row ∷ [])
last_too P row [] p h = (p, tt)
last_too P row (r ∷ rows) p h = (h.0, last_too P row rows p h.1)

behind_too : (P : TreeRow → Type 0) (depth : ℕ) (row : TreeRow) (rows : List TreeRow) → P row → AllByRecursion P rows → AllByRecursion P (behind_deeper depth row rows)
behind_too P depth row [] p h = (p, tt)
behind_too P depth row (r ∷ rows) p h =
    either (AllByRecursion P) (nat_lt depth r.depth) (r ∷ behind_deeper depth row rows) (row ∷ r ∷ rows) (h.0, behind_too P depth row rows p h.1) (p, h)

-- no row is deeper than this
abbrev pub Depths : ℕ → List TreeRow → Type 0
Depths n rows = AllByRecursion (λ row. row.depth ≤ n) rows

one_more : (n : ℕ) (rows : List TreeRow) → Depths n rows → Depths (n + 1) rows
one_more n rows h = weaker (λ row. row.depth ≤ n) (λ row. row.depth ≤ n + 1) (λ row le. omega arith) rows h

below_depths : (n number parent : ℕ) (rows : List TreeRow) → Depths n rows → Depths (n + 1) (below_parent number parent rows)
below_depths n number parent [] h = (omega arith, tt)
below_depths n number parent (r ∷ rows) h =
    let le : r.depth ≤ n = h.0 in
    let row : TreeRow = record { number = number; depth = r.depth + 1 } in
    either (Depths (n + 1)) (r.number == parent) (r ∷ behind_deeper r.depth row rows) (r ∷ below_parent number parent rows)
    (omega arith, behind_too (λ row. row.depth ≤ n + 1) r.depth row rows (omega arith) (one_more n rows h.1))
    (omega arith, below_depths n number parent rows h.1)

parent_depths : (n number : ℕ) (parent : Option ℕ) (rows : List TreeRow) → Depths n rows → Depths (n + 1) (with_parent parent number rows)
parent_depths n number None rows h = last_too (λ row. row.depth ≤ n + 1) (record { number = number; depth = 0 }) rows (omega arith) (one_more n rows h)
parent_depths n number (Some parent) rows h = below_depths n number parent rows h

-- one more node makes the tree deeper by one at most
pub node_depths : (n number : ℕ) (part : NodePart) (rows : List TreeRow) → Depths n rows → Depths (n + 1) (with_true_node number part rows)
node_depths n number part rows h =
    either (Depths (n + 1)) (was_true part) (with_parent part.node.parent number rows) rows
    (parent_depths n number part.node.parent rows h) (one_more n rows h)

pub each_of : (P : TreeRow → Type 0) (rows : List TreeRow) (k : ℕ) (d : TreeRow) → k < length rows → AllByRecursion P rows → P (get_or rows k d)
each_of P [] k d l h = absurd (omega arith)
each_of P (r ∷ rows) zero d l h = h.0
each_of P (r ∷ rows) (suc k) d l h = each_of P rows k d (omega arith) h.1

-- the rows of a tree of fewer nodes than there are numbers
pub fitting : (n : ℕ) (rows : List TreeRow) → n + 1 < 2 ^ 64 → Depths n rows → AllByRecursion (λ row. row.depth + 1 < 2 ^ 64) rows
fitting n rows l h = weaker (λ row. row.depth ≤ n) (λ row. row.depth + 1 < 2 ^ 64) (λ row le. omega arith) rows h

-- ---- one more node

drop_one : (parts : List NodePart) (n : ℕ) (part : NodePart) → n < length parts → part ≡ get_or parts n part → drop n parts ≡ part ∷ drop (n + 1) parts
drop_one parts n part l is = rw add-one (drop-cons parts n part l ∙ ap (λ (p : NodePart). p ∷ drop (suc n) parts) (sym is))

module _ (parts : List NodePart) (n : ℕ) (part : NodePart) (rows new : List TreeRow) (l : n < length parts) (is : part ≡ get_or parts n part) (put : new ≡ with_true_node n part rows) where
  pub tree_step : tree_from n (drop n parts) rows ≡ truth_tree parts → tree_from (n + 1) (drop (n + 1) parts) new ≡ truth_tree parts
  tree_step tree =
      ap (λ (z : List TreeRow). tree_from (n + 1) (drop (n + 1) parts) z) put
      ∙ sym (ap (λ (ps : List NodePart). tree_from n ps rows) (drop_one parts n part l is))
      ∙ tree

  pub depths_step : Depths n rows → Depths (n + 1) new
  depths_step depths = subst (λ (z : List TreeRow). Depths (n + 1) z) (sym put) (node_depths n n part rows depths)
