-- How often a number stands in a tree.
use Rattle.std.proofs.Common.{◌≡◌, ◌+◌, ◌<◌, ℕ, zero, suc, true, false, List, [], ◌∷◌, ◌++◌, refl, ap, ◌∙◌, zero-add, arith}
use Rattle.std.specs.Prelude.{◌==◌, nat_lt, if◌then◌else◌, Option, Some, None, slice_get}
use Rattle.std.specs.List.{count_by}
use Rattle.std.specs.Option.{option_map_or}
use Rattle.std.proofs.lemmas.Bool.Decides.{nat_tests}
use Rattle.std.proofs.lemmas.List.Sums.{sum_by-cons}
use Rattle.report.specs.declared.parts.NodePart.{NodePart}
use Rattle.report_view.specs.Trees.{behind_deeper, below_parent, was_true, with_true_node, with_parent, tree_from}
use Rattle.report_view.specs.declared.tree_row.TreeRow.{TreeRow}

-- how many rows have this number
abbrev count : ℕ → List TreeRow → ℕ
count n rows = count_by (λ row. row.number == n) rows

abbrev one : ℕ → ℕ → ℕ
one n number = if number == n then 1 else 0

count_first : (n : ℕ) (row : TreeRow) (rows : List TreeRow) → count n (row ∷ rows) ≡ one n row.number + count n rows
count_first n row rows = sum_by-cons (λ (r : TreeRow). if r.number == n then 1 else 0) row rows

behind_count : (n depth : ℕ) (row : TreeRow) (rows : List TreeRow) → count n (behind_deeper depth row rows) ≡ one n row.number + count n rows
behind_count n depth row [] = count_first n row []
behind_count n depth row (r ∷ rows) =
    let two = count_first n r rows in
    elim (nat_lt depth r.depth) as (λ b. count n (if b then r ∷ behind_deeper depth row rows else row ∷ r ∷ rows) ≡ one n row.number + count n (r ∷ rows)) [
      | true ↦ omega (arith, count_first n r (behind_deeper depth row rows), behind_count n depth row rows)
      | false ↦ count_first n row (r ∷ rows)
    ]

below_count : (n number parent : ℕ) (rows : List TreeRow) → count n (below_parent number parent rows) ≡ one n number + count n rows
below_count n number parent [] = count_first n (record { number = number; depth = 0 }) []
below_count n number parent (r ∷ rows) =
    let two = count_first n r rows in
    let row : TreeRow = record { number = number; depth = r.depth + 1 } in
    elim (r.number == parent) as (λ b. count n (if b then r ∷ behind_deeper r.depth row rows else r ∷ below_parent number parent rows) ≡ one n number + count n (r ∷ rows)) [
      | true ↦ omega (arith, count_first n r (behind_deeper r.depth row rows), behind_count n r.depth row rows)
      | false ↦ omega (arith, count_first n r (below_parent number parent rows), below_count n number parent rows)
    ]

last_count : (n : ℕ) (row : TreeRow) (rows : List TreeRow) → count n (rows ++ row ∷ []) ≡ one n row.number + count n rows
last_count n row [] = count_first n row []
last_count n row (r ∷ rows) = omega (arith, count_first n r rows, count_first n r (rows ++ row ∷ []), last_count n row rows)

parent_count : (n number : ℕ) (parent : Option ℕ) (rows : List TreeRow) → count n (with_parent parent number rows) ≡ one n number + count n rows
parent_count n number None rows = last_count n (record { number = number; depth = 0 }) rows
parent_count n number (Some parent) rows = below_count n number parent rows

-- a node's part in it
abbrev share : ℕ → ℕ → NodePart → ℕ
share n number part = if was_true part then one n number else 0

node_count : (n number : ℕ) (part : NodePart) (rows : List TreeRow) → count n (with_true_node number part rows) ≡ share n number part + count n rows
node_count n number part rows =
    elim (was_true part) as (λ b. count n (if b then with_parent part.node.parent number rows else rows) ≡ (if b then one n number else 0) + count n rows) [
      | true ↦ parent_count n number part.node.parent rows
      | false ↦ omega arith
    ]

-- that of nodes that are numbered from a number on
abbrev shares : ℕ → ℕ → List NodePart → ℕ
shares n number [] = 0
shares n number (part ∷ parts) = share n number part + shares n (number + 1) parts

tree_count : (n number : ℕ) (parts : List NodePart) (rows : List TreeRow) → count n (tree_from number parts rows) ≡ shares n number parts + count n rows
tree_count n number [] rows = omega arith
tree_count n number (part ∷ parts) rows = omega (arith, tree_count n (number + 1) parts (with_true_node number part rows), node_count n number part rows)

another : (n number : ℕ) (part : NodePart) → (number ≡ n → ⊥) → share n number part ≡ 0
another n number part h = grind (arith, nat_tests)

none_before : (n number : ℕ) (parts : List NodePart) → n < number → shares n number parts ≡ 0
none_before n number [] l = refl
none_before n number (part ∷ parts) l = omega (arith, another n number part (λ e. omega arith), none_before n (number + 1) parts (omega arith))

-- whether the node at a place was true
abbrev truth : List NodePart → ℕ → ℕ
truth parts k = if option_map_or was_true (slice_get parts k) false then 1 else 0

same_share : (n number : ℕ) (part : NodePart) → n ≡ number → share n number part ≡ (if was_true part then 1 else 0)
same_share n number part e = grind (arith, nat_tests)

share_at : (n number k : ℕ) (parts : List NodePart) → n ≡ number + k → shares n number parts ≡ truth parts k
share_at n number k [] e = refl
share_at n number zero (part ∷ parts) e =
    let none : shares n (number + 1) parts ≡ 0 = none_before n (number + 1) parts (omega arith) in
    let mine : share n number part ≡ truth (part ∷ parts) 0 = same_share n number part (omega arith) in
    omega arith
share_at n number (suc k) (part ∷ parts) e =
    let zero_here : share n number part ≡ 0 = another n number part (λ same. omega arith) in
    let rest : shares n (number + 1) parts ≡ truth parts k = share_at n (number + 1) k parts (omega arith) in
    ap (λ z. z + shares n (number + 1) parts) zero_here ∙ zero-add (shares n (number + 1) parts) ∙ rest

pub each_once : (parts : List NodePart) (n : ℕ) → count n (tree_from 0 parts []) ≡ truth parts n
each_once parts n =
    let none : count n [] ≡ 0 = refl in
    omega (arith, tree_count n 0 parts [], share_at n 0 n parts (omega arith))
