-- What stands above the rows of a tree.
use Rattle.std.proofs.Common.{◌≡◌, ◌+◌, ◌≤◌, ◌<◌, ◌⊎◌, ℕ, zero, suc, true, false, List, [], ◌∷◌, ◌++◌, length, refl, ap, sym, subst, ◌∙◌, inl, inr, ⊎_elim, zero-add, arith}
use Rattle.std.specs.Prelude.{if◌then◌else◌, Option, Some, None, slice_get}
use Rattle.std.specs.List.{insert}
use Rattle.std.proofs.lemmas.List.Edits.{insert_end}
use Rattle.report.specs.declared.parts.NodePart.{NodePart}
use Rattle.report_view.specs.Laws.{StandsBelow}
use Rattle.report_view.specs.Trees.{below_parent, was_true, tree_from, with_true_node, with_parent}
use Rattle.report_view.specs.declared.tree_row.TreeRow.{TreeRow}
use Rattle.report_view.proofs.Places.{IsChild, get_before, get_behind, get_there, is_put}

order : (a b : ℕ) → (a < b) ⊎ (b ≤ a)
order a zero = inr (omega arith)
order zero (suc b) = inl (omega arith)
order (suc a) (suc b) = ⊎_elim (λ l. inl (omega arith)) (λ l. inr (omega arith)) (order a b)

inside : (xs : List TreeRow) (k : ℕ) (x : TreeRow) → slice_get xs k ≡ Some x → k < length xs
inside [] k x e = absurd cc
inside (y ∷ xs) zero x e = omega arith
inside (y ∷ xs) (suc k) x e = let l = inside xs k x e in omega arith

outside : (xs : List TreeRow) (k : ℕ) (x : TreeRow) → slice_get xs k ≡ Some x → length xs ≤ k → ⊥
outside xs k x e le = let l = inside xs k x e in omega arith

pub record IsAt (xs : List TreeRow) (k : ℕ) : Type 0 where
  pub value : TreeRow
  pub is : slice_get xs k ≡ Some value

at : (xs : List TreeRow) (k : ℕ) → k < length xs → IsAt xs k
at [] k l = absurd (omega arith)
at (x ∷ xs) zero l = record { value = x; is = refl }
at (x ∷ xs) (suc k) l = let a = at xs k (omega arith) in record { value = a.value; is = a.is }

-- each row that isn't a root stands below the node that it refines
abbrev AreBelow : List NodePart → List TreeRow → Type 0
AreBelow parts rows = (i : ℕ) (row : TreeRow) → slice_get rows i ≡ Some row → 0 < row.depth → StandsBelow parts rows i row

-- ---- one more row

module _ (parts : List NodePart) (rows : List TreeRow) (e : ℕ) (x : TreeRow) (within : e ≤ length rows) where
  before_it : (i : ℕ) (row : TreeRow) → i < e → StandsBelow parts rows i row → StandsBelow parts (insert rows e x) i row
  before_it i row l h = record {
    place = h.place;
    before = h.before;
    above = h.above;
    there = get_before rows e x h.place (let b = h.before in omega arith) within ∙ h.there;
    step = h.step;
    refines = h.refines;
    between = λ k other m n is. h.between k other m n (sym (get_before rows e x k (omega arith) within) ∙ is);
  }

  -- the row above stands behind the new one too
  far : (j : ℕ) (row : TreeRow) (h : StandsBelow parts rows j row) → e ≤ h.place → StandsBelow parts (insert rows e x) (suc j) row
  far j row h le = record {
    place = suc h.place;
    before = let b = h.before in omega arith;
    above = h.above;
    there = get_behind rows e x h.place le within ∙ h.there;
    step = h.step;
    refines = h.refines;
    between = far_between j row h le;
  }
    where
      far_between : (j : ℕ) (row : TreeRow) (h : StandsBelow parts rows j row) → e ≤ h.place → (k : ℕ) (other : TreeRow) → suc h.place < k → k < suc j → slice_get (insert rows e x) k ≡ Some other → h.above.depth < other.depth
      far_between j row h le zero other m n is = absurd (omega arith)
      far_between j row h le (suc k) other m n is = h.between k other (omega arith) (omega arith) (sym (get_behind rows e x k (omega arith) within) ∙ is)

  -- what stands at the new row's place is less deep than it
  abbrev IsLow : Type 0
  IsLow = (other : TreeRow) → slice_get rows e ≡ Some other → other.depth < x.depth

  lower : (j : ℕ) (row : TreeRow) (h : StandsBelow parts rows j row) → h.place < e → e ≤ j → slice_get rows j ≡ Some row → IsLow → h.above.depth < x.depth
  lower j row h l le is low = ⊎_elim (λ m. deeper m) (λ m. same m) (order e j)
    where
      deeper : e < j → h.above.depth < x.depth
      deeper m =
          let a = at rows e (let i = inside rows j row is in omega arith) in
          let b = h.between e a.value l m a.is in
          let c = low a.value a.is in
          omega arith

      same : j ≤ e → h.above.depth < x.depth
      same m =
          let eq : j ≡ e = omega arith in
          let c = low row (sym (ap (slice_get rows) eq) ∙ is) in
          let d = h.step in
          omega arith

  near_behind : (j : ℕ) (row : TreeRow) (h : StandsBelow parts rows j row) → h.place < e → (k : ℕ) (other : TreeRow) → e < k → k < suc j → slice_get (insert rows e x) k ≡ Some other → h.above.depth < other.depth
  near_behind j row h l zero other m n is = absurd (omega arith)
  near_behind j row h l (suc k) other m n is = h.between k other (omega arith) (omega arith) (sym (get_behind rows e x k (omega arith) within) ∙ is)

  near_here : (depth k : ℕ) (other : TreeRow) → k ≡ e → depth < x.depth → slice_get (insert rows e x) k ≡ Some other → depth < other.depth
  near_here depth k other eq l is =
      let there : slice_get (insert rows e x) k ≡ Some x = ap (slice_get (insert rows e x)) eq ∙ get_there rows e x within in
      let same : x ≡ other = cc in
      let d : x.depth ≡ other.depth = ap (λ (r : TreeRow). r.depth) same in
      omega arith

  -- the row above stands before the new one
  near : (j : ℕ) (row : TreeRow) (h : StandsBelow parts rows j row) → h.place < e → e ≤ j → slice_get rows j ≡ Some row → IsLow → StandsBelow parts (insert rows e x) (suc j) row
  near j row h l le at_j low = record {
    place = h.place;
    before = let b = h.before in omega arith;
    above = h.above;
    there = get_before rows e x h.place l within ∙ h.there;
    step = h.step;
    refines = h.refines;
    between = λ k other m n is.
        ⊎_elim
        (λ (b : k < e). h.between k other m (omega arith) (sym (get_before rows e x k b within) ∙ is))
        (λ (b : e ≤ k). ⊎_elim
        (λ (c : e < k). near_behind j row h l k other c n is)
        (λ (c : k ≤ e). near_here h.above.depth k other (omega arith) (lower j row h l le at_j low) is)
        (order e k))
        (order k e);
  }

  module _ (all : AreBelow parts rows) (low : IsLow) (own : 0 < x.depth → StandsBelow parts (insert rows e x) e x) where
    behind_it : (i : ℕ) (row : TreeRow) → e < i → slice_get (insert rows e x) i ≡ Some row → 0 < row.depth → StandsBelow parts (insert rows e x) i row
    behind_it zero row l is deep = absurd (omega arith)
    behind_it (suc j) row l is deep =
        let old : slice_get rows j ≡ Some row = sym (get_behind rows e x j (omega arith) within) ∙ is in
        let h : StandsBelow parts rows j row = all j row old deep in
        ⊎_elim (λ b. near j row h b (omega arith) old low) (λ b. far j row h b) (order h.place e)

    it : (i : ℕ) (row : TreeRow) → i ≡ e → slice_get (insert rows e x) i ≡ Some row → 0 < row.depth → StandsBelow parts (insert rows e x) i row
    it i row eq is deep =
        let there : slice_get (insert rows e x) i ≡ Some x = ap (slice_get (insert rows e x)) eq ∙ get_there rows e x within in
        let same : x ≡ row = cc in
        let d : x.depth ≡ row.depth = ap (λ (r : TreeRow). r.depth) same in
        subst (λ (r : TreeRow). StandsBelow parts (insert rows e x) i r) same
        (subst (λ (z : ℕ). StandsBelow parts (insert rows e x) z x) (sym eq) (own (omega arith)))

    pub kept : AreBelow parts (insert rows e x)
    kept i row is deep =
        ⊎_elim
        (λ (b : i < e). before_it i row b (all i row (sym (get_before rows e x i b within) ∙ is) deep))
        (λ (b : e ≤ i). ⊎_elim (λ (c : e < i). behind_it i row c is deep) (λ (c : i ≤ e). it i row (omega arith) is deep) (order e i))
        (order i e)

-- ---- one more node

module _ (parts : List NodePart) (number : ℕ) (part : NodePart) (known : slice_get parts number ≡ Some part) (rows : List TreeRow) (all : AreBelow parts rows) where
  abbrev root : TreeRow
  root = record { number = number; depth = 0 }

  root_kept : AreBelow parts (rows ++ root ∷ [])
  root_kept =
      subst (λ (z : List TreeRow). AreBelow parts z) (insert_end rows root)
      (kept parts rows (length rows) root (omega arith) all (λ other is. absurd (outside rows (length rows) other is (omega arith))) (λ l. absurd (omega arith)))

  child_kept : (parent : ℕ) → part.node.parent ≡ Some parent → IsChild number parent rows → AreBelow parts (below_parent number parent rows)
  child_kept parent is c =
      let x : TreeRow = record { number = number; depth = c.above.depth + 1 } in
      subst (λ (z : List TreeRow). AreBelow parts z) (sym c.put)
      (kept parts rows c.end x c.within all (λ other at_end. let s = c.stops other at_end in omega arith)
      (λ deep. record {
        place = c.place;
        before = c.after;
        above = c.above;
        there = get_before rows c.end x c.place c.after c.within ∙ c.there;
        step = refl;
        refines = λ other at_number.
            let same : part ≡ other = cc in
            let named = c.named in
            ap (λ (p : NodePart). p.node.parent) (sym same) ∙ is ∙ ap Some (sym named);
        between = λ k other m n at_k. c.between k other m n (sym (get_before rows c.end x k n c.within) ∙ at_k);
      }))

  below_kept : (parent : ℕ) → part.node.parent ≡ Some parent → AreBelow parts (below_parent number parent rows)
  below_kept parent is =
      ⊎_elim (λ e. subst (λ (z : List TreeRow). AreBelow parts z) (sym e) root_kept) (λ c. child_kept parent is c) (is_put number parent rows)

  parent_kept : (parent : Option ℕ) → part.node.parent ≡ parent → AreBelow parts (with_parent parent number rows)
  parent_kept None is = root_kept
  parent_kept (Some parent) is = below_kept parent is

  node_kept : AreBelow parts (with_true_node number part rows)
  node_kept =
      elim (was_true part) as (λ b. AreBelow parts (if b then with_parent part.node.parent number rows else rows)) [
        | true ↦ parent_kept part.node.parent refl
        | false ↦ all
      ]

-- the nodes that are left stand in the list from a number on
abbrev AreFrom : List NodePart → ℕ → List NodePart → Type 0
AreFrom parts number left = (k : ℕ) (part : NodePart) → slice_get left k ≡ Some part → slice_get parts (number + k) ≡ Some part

next_from : (parts : List NodePart) (number : ℕ) (part : NodePart) (left : List NodePart) → AreFrom parts number (part ∷ left) → AreFrom parts (number + 1) left
next_from parts number part left h k other is =
    let e : number + 1 + k ≡ number + suc k = omega arith in
    ap (slice_get parts) e ∙ h (suc k) other is

tree_kept : (parts : List NodePart) (number : ℕ) (left : List NodePart) (rows : List TreeRow) → AreFrom parts number left → AreBelow parts rows → AreBelow parts (tree_from number left rows)
tree_kept parts number [] rows from all = all
tree_kept parts number (part ∷ left) rows from all =
    let e : number ≡ number + 0 = omega arith in
    tree_kept parts (number + 1) left (with_true_node number part rows) (next_from parts number part left from)
    (node_kept parts number part (ap (slice_get parts) e ∙ from 0 part refl) rows all)

pub parents_above : (parts : List NodePart) → AreBelow parts (tree_from 0 parts [])
parents_above parts = tree_kept parts 0 parts [] (λ k part is. ap (slice_get parts) (zero-add k) ∙ is) (λ i row is deep. absurd cc)
