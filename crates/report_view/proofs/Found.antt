-- Where a node is found in a tree.
use Rattle.std.proofs.Common.{◌≡◌, ◌+◌, ◌≤◌, ◌<◌, ℕ, zero, suc, Bool, true, false, cond, List, [], ◌∷◌, ◌++◌, length, take, drop, get_or, refl, ap, sym, ◌∙◌, arith}
use Rattle.std.specs.Prelude.{◌==◌, if◌then◌else◌, nat_lt, not, None, Some}
use Rattle.std.specs.List.{position_or_len}
use Rattle.std.proofs.lemmas.Bool.{ltb-false, ltb-true}
use Rattle.std.proofs.lemmas.List.Sums.{prefix_len-le-length}
use Rattle.report_view.specs.Trees.{behind_deeper, below_parent, row_place}
use Rattle.report_view.specs.declared.tree_row.TreeRow.{TreeRow}

-- where the node stands, or how many rows there are
abbrev pub place : ℕ → List TreeRow → ℕ
place parent rows = position_or_len (λ row. row.number == parent) rows

abbrev step : ℕ → ℕ → TreeRow → List TreeRow → Bool → List TreeRow
step number parent r rows b = if b then r ∷ behind_deeper r.depth (record { number = number; depth = r.depth + 1 }) rows else r ∷ below_parent number parent rows

abbrev place_step : ℕ → List TreeRow → Bool → ℕ
place_step parent rows b = cond (not b) (1 + place parent rows) 0

abbrev placed : ℕ → List TreeRow → ℕ → TreeRow → List TreeRow
placed number rows k r = take (suc k) rows ++ behind_deeper r.depth (record { number = number; depth = r.depth + 1 }) (drop (suc k) rows)

module _ (number parent : ℕ) (r : TreeRow) (rows : List TreeRow) where
  here : (r.number == parent) ≡ true → place parent (r ∷ rows) ≡ 0
  here t = ap (place_step parent rows) t

  later : (r.number == parent) ≡ false → place parent (r ∷ rows) ≡ 1 + place parent rows
  later t = ap (place_step parent rows) t

  below_here : (r.number == parent) ≡ true → below_parent number parent (r ∷ rows) ≡ r ∷ behind_deeper r.depth (record { number = number; depth = r.depth + 1 }) rows
  below_here t = ap (step number parent r rows) t

  below_later : (r.number == parent) ≡ false → below_parent number parent (r ∷ rows) ≡ r ∷ below_parent number parent rows
  below_later t = ap (step number parent r rows) t

  nowhere_step : (b : Bool) → (r.number == parent) ≡ b → place parent (r ∷ rows) ≡ length (r ∷ rows)
      → (place parent rows ≡ length rows → below_parent number parent rows ≡ rows ++ record { number = number; depth = 0 } ∷ [])
      → below_parent number parent (r ∷ rows) ≡ (r ∷ rows) ++ record { number = number; depth = 0 } ∷ []
  nowhere_step true t e h = let z = here t in absurd (omega arith)
  nowhere_step false t e h = let s = later t in below_later t ∙ ap (λ (z : List TreeRow). r ∷ z) (h (omega arith))

  first_step : (b : Bool) → (r.number == parent) ≡ b → place parent (r ∷ rows) ≡ 0
      → r ∷ behind_deeper r.depth (record { number = number; depth = r.depth + 1 }) rows ≡ below_parent number parent (r ∷ rows)
  first_step true t e = sym (below_here t)
  first_step false t e = let s = later t in absurd (omega arith)

  later_step : (b : Bool) → (r.number == parent) ≡ b → (k : ℕ) (x : TreeRow) → place parent (r ∷ rows) ≡ suc k
      → (place parent rows ≡ k → placed number rows k x ≡ below_parent number parent rows)
      → r ∷ placed number rows k x ≡ below_parent number parent (r ∷ rows)
  later_step true t k x e h = let z = here t in absurd (omega arith)
  later_step false t k x e h = let s = later t in ap (λ (z : List TreeRow). r ∷ z) (h (omega arith)) ∙ sym (below_later t)

nowhere : (number parent : ℕ) (rows : List TreeRow) → place parent rows ≡ length rows → below_parent number parent rows ≡ rows ++ record { number = number; depth = 0 } ∷ []
nowhere number parent [] e = refl
nowhere number parent (r ∷ rows) e = nowhere_step number parent r rows (r.number == parent) refl e (λ f. nowhere number parent rows f)

somewhere : (number parent : ℕ) (rows : List TreeRow) (k : ℕ) (d : TreeRow) → place parent rows ≡ k → k < length rows → placed number rows k (get_or rows k d) ≡ below_parent number parent rows
somewhere number parent [] k d e l = absurd (omega arith)
somewhere number parent (r ∷ rows) zero d e l = first_step number parent r rows (r.number == parent) refl e
somewhere number parent (r ∷ rows) (suc k) d e l =
    later_step number parent r rows (r.number == parent) refl k (get_or rows k d) e (λ f. somewhere number parent rows k d f (omega arith))

-- ---- by the place

some_only : (b : Bool) (m k : ℕ) → cond b (Some m) None ≡ Some k → (b ≡ true) × (m ≡ k)
some_only true m k e = (refl, cc)
some_only false m k e = cc

none_only : (b : Bool) (m : ℕ) → cond b (Some m) None ≡ None → b ≡ false
none_only true m e = cc
none_only false m e = refl

any_default : (rows : List TreeRow) (k : ℕ) (d e : TreeRow) → k < length rows → get_or rows k d ≡ get_or rows k e
any_default [] k d e l = absurd (omega arith)
any_default (r ∷ rows) zero d e l = refl
any_default (r ∷ rows) (suc k) d e l = any_default rows k d e (omega arith)

module _ (number parent : ℕ) (rows : List TreeRow) where
  -- the other node isn't there
  pub absent : row_place parent rows ≡ None → below_parent number parent rows ≡ rows ++ record { number = number; depth = 0 } ∷ []
  unfolding row_place
  absent e =
      let f = none_only (nat_lt (place parent rows) (length rows)) (place parent rows) e in
      let l : length rows ≤ place parent rows = ltb-false _ _ f in
      let m = prefix_len-le-length (λ (row : TreeRow). not (row.number == parent)) rows in
      nowhere number parent rows (omega arith)

  pub within : (k : ℕ) → row_place parent rows ≡ Some k → k < length rows
  unfolding row_place
  within k e =
      let f = some_only (nat_lt (place parent rows) (length rows)) (place parent rows) k e in
      let l : place parent rows < length rows = ltb-true _ _ f.0 in
      let same = f.1 in
      omega arith

  -- it is there
  pub present : (new : List TreeRow) (k : ℕ) → row_place parent rows ≡ Some k
      → ((above : TreeRow) → above ≡ get_or rows k above → new ≡ take (k + 1) rows ++ behind_deeper above.depth (record { number = number; depth = above.depth + 1 }) (drop (k + 1) rows))
      → new ≡ below_parent number parent rows
  unfolding row_place
  present new k e h =
      let d : TreeRow = record { number = 0; depth = 0 } in
      let f = some_only (nat_lt (place parent rows) (length rows)) (place parent rows) k e in
      let l = within k e in
      let one : k + 1 ≡ suc k = omega arith in
      h (get_or rows k d) (any_default rows k d (get_or rows k d) l)
      ∙ ap (λ (n : ℕ). take n rows ++ behind_deeper (get_or rows k d).depth (record { number = number; depth = (get_or rows k d).depth + 1 }) (drop n rows)) one
      ∙ somewhere number parent rows k d f.1 l
