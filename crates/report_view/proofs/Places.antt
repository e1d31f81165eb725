-- Where a row is put into a tree.
use Rattle.std.proofs.Common.{◌≡◌, ◌+◌, ◌≤◌, ◌<◌, ℕ, zero, suc, Bool, true, false, List, [], ◌∷◌, ◌++◌, length, refl, ap, ◌∙◌, arith}
use Rattle.std.specs.Prelude.{◌==◌, ◌⊎◌, nat_lt, if◌then◌else◌, Some, slice_get}
use Rattle.std.specs.List.{insert}
use Rattle.std.proofs.lemmas.Bool.Decides.{nat_tests}
use Rattle.std.proofs.Common.{inl, inr, ⊎_elim}
use Rattle.report_view.specs.Trees.{behind_deeper, below_parent}
use Rattle.report_view.specs.declared.tree_row.TreeRow.{TreeRow}

-- ---- what stands in a list into which something is put

pub get_before : (xs : List TreeRow) (e : ℕ) (x : TreeRow) (k : ℕ) → k < e → e ≤ length xs → slice_get (insert xs e x) k ≡ slice_get xs k
get_before xs zero x k h le = absurd (omega arith)
get_before [] (suc e) x k h le = absurd (omega arith)
get_before (y ∷ xs) (suc e) x zero h le = refl
get_before (y ∷ xs) (suc e) x (suc k) h le = get_before xs e x k (omega arith) (omega arith)

pub get_there : (xs : List TreeRow) (e : ℕ) (x : TreeRow) → e ≤ length xs → slice_get (insert xs e x) e ≡ Some x
get_there xs zero x le = refl
get_there [] (suc e) x le = absurd (omega arith)
get_there (y ∷ xs) (suc e) x le = get_there xs e x (omega arith)

pub get_behind : (xs : List TreeRow) (e : ℕ) (x : TreeRow) (k : ℕ) → e ≤ k → e ≤ length xs → slice_get (insert xs e x) (suc k) ≡ slice_get xs k
get_behind xs zero x k h le = refl
get_behind [] (suc e) x k h le = absurd (omega arith)
get_behind (y ∷ xs) (suc e) x zero h le = absurd (omega arith)
get_behind (y ∷ xs) (suc e) x (suc k) h le = get_behind xs e x k (omega arith) (omega arith)

-- ---- behind the rows that are deeper

pub record IsBehind (depth : ℕ) (row : TreeRow) (rows : List TreeRow) : Type 0 where
  pub end : ℕ
  pub within : end ≤ length rows
  pub put : behind_deeper depth row rows ≡ insert rows end row
  pub deeper : (k : ℕ) (other : TreeRow) → k < end → slice_get rows k ≡ Some other → depth < other.depth
  pub stops : (other : TreeRow) → slice_get rows end ≡ Some other → other.depth ≤ depth

behind_step : (depth : ℕ) (row r : TreeRow) (rows : List TreeRow) (b : Bool) → nat_lt depth r.depth ≡ b → IsBehind depth row rows → IsBehind depth row (r ∷ rows)
behind_step depth row r rows true e h = record {
  end = suc h.end;
  within = let le = h.within in omega arith;
  put = ap (λ (b : Bool). if b then r ∷ behind_deeper depth row rows else row ∷ r ∷ rows) e ∙ ap (λ (z : List TreeRow). r ∷ z) h.put;
  deeper = first_deeper depth row r rows e h;
  stops = h.stops;
}
  where
    first_deeper : (depth : ℕ) (row r : TreeRow) (rows : List TreeRow) → nat_lt depth r.depth ≡ true → (h : IsBehind depth row rows) → (k : ℕ) (other : TreeRow) → k < suc h.end → slice_get (r ∷ rows) k ≡ Some other → depth < other.depth
    first_deeper depth row r rows e h zero other l is = let same : r ≡ other = cc in grind (arith, nat_tests)
    first_deeper depth row r rows e h (suc k) other l is = h.deeper k other (omega arith) is
behind_step depth row r rows false e h = record {
  end = 0;
  within = omega arith;
  put = ap (λ (b : Bool). if b then r ∷ behind_deeper depth row rows else row ∷ r ∷ rows) e;
  deeper = λ k other l is. absurd (omega arith);
  stops = λ other is. let same : r ≡ other = cc in grind (arith, nat_tests);
}

pub behind : (depth : ℕ) (row : TreeRow) (rows : List TreeRow) → IsBehind depth row rows
behind depth row [] = record {
  end = 0;
  within = omega arith;
  put = refl;
  deeper = λ k other l is. absurd (omega arith);
  stops = λ other is. absurd cc;
}
behind depth row (r ∷ rows) = behind_step depth row r rows (nat_lt depth r.depth) refl (behind depth row rows)

-- ---- below another node

pub record IsChild (number parent : ℕ) (rows : List TreeRow) : Type 0 where
  pub place : ℕ
  pub above : TreeRow
  pub there : slice_get rows place ≡ Some above
  pub named : above.number ≡ parent
  pub end : ℕ
  pub after : place < end
  pub within : end ≤ length rows
  pub put : below_parent number parent rows ≡ insert rows end (record { number = number; depth = above.depth + 1 })
  pub between : (k : ℕ) (other : TreeRow) → place < k → k < end → slice_get rows k ≡ Some other → above.depth < other.depth
  pub stops : (other : TreeRow) → slice_get rows end ≡ Some other → other.depth ≤ above.depth

-- a root at the end, or below the other node
abbrev pub IsPut : ℕ → ℕ → List TreeRow → Type 0
IsPut number parent rows = (below_parent number parent rows ≡ rows ++ record { number = number; depth = 0 } ∷ []) ⊎ IsChild number parent rows

abbrev step : ℕ → ℕ → TreeRow → List TreeRow → Bool → List TreeRow
step number parent r rows b = if b then r ∷ behind_deeper r.depth (record { number = number; depth = r.depth + 1 }) rows else r ∷ below_parent number parent rows

child_here : (number parent : ℕ) (r : TreeRow) (rows : List TreeRow) → (r.number == parent) ≡ true → IsBehind r.depth (record { number = number; depth = r.depth + 1 }) rows → IsChild number parent (r ∷ rows)
child_here number parent r rows e h = record {
  place = 0;
  above = r;
  there = refl;
  named = grind (arith, nat_tests);
  end = suc h.end;
  after = omega arith;
  within = let le = h.within in omega arith;
  put = ap (step number parent r rows) e ∙ ap (λ (z : List TreeRow). r ∷ z) h.put;
  between = later number r rows h;
  stops = h.stops;
}
  where
    later : (number : ℕ) (r : TreeRow) (rows : List TreeRow) (h : IsBehind r.depth (record { number = number; depth = r.depth + 1 }) rows) → (k : ℕ) (other : TreeRow) → 0 < k → k < suc h.end → slice_get (r ∷ rows) k ≡ Some other → r.depth < other.depth
    later number r rows h zero other l m is = absurd (omega arith)
    later number r rows h (suc k) other l m is = h.deeper k other (omega arith) is

child_later : (number parent : ℕ) (r : TreeRow) (rows : List TreeRow) → (r.number == parent) ≡ false → IsChild number parent rows → IsChild number parent (r ∷ rows)
child_later number parent r rows e h = record {
  place = suc h.place;
  above = h.above;
  there = h.there;
  named = h.named;
  end = suc h.end;
  after = let l = h.after in omega arith;
  within = let le = h.within in omega arith;
  put = ap (step number parent r rows) e ∙ ap (λ (z : List TreeRow). r ∷ z) h.put;
  between = later number parent r rows h;
  stops = h.stops;
}
  where
    later : (number parent : ℕ) (r : TreeRow) (rows : List TreeRow) (h : IsChild number parent rows) → (k : ℕ) (other : TreeRow) → suc h.place < k → k < suc h.end → slice_get (r ∷ rows) k ≡ Some other → h.above.depth < other.depth
    later number parent r rows h zero other l m is = absurd (omega arith)
    later number parent r rows h (suc k) other l m is = h.between k other (omega arith) (omega arith) is

put_step : (number parent : ℕ) (r : TreeRow) (rows : List TreeRow) (b : Bool) → (r.number == parent) ≡ b → IsPut number parent rows → IsPut number parent (r ∷ rows)
put_step number parent r rows true e h = inr (child_here number parent r rows e (behind r.depth (record { number = number; depth = r.depth + 1 }) rows))
put_step number parent r rows false e h =
    ⊎_elim (λ root. inl (ap (step number parent r rows) e ∙ ap (λ (z : List TreeRow). r ∷ z) root)) (λ child. inr (child_later number parent r rows e child)) h

pub is_put : (number parent : ℕ) (rows : List TreeRow) → IsPut number parent rows
is_put number parent [] = inl refl
is_put number parent (r ∷ rows) = put_step number parent r rows (r.number == parent) refl (is_put number parent rows)
