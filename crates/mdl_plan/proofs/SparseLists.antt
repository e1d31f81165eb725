-- How lists by procedure of which most are empty grow.
use Rattle.std.proofs.Common.{◌≡◌, ℕ, zero, suc, ◌+◌, ◌-◌, ◌<◌, ◌==◌, ◌||◌, cond, nat_lt, replicate, Bool, true, false, Some, List, [], ◌∷◌, ◌++◌, length, flat_map, set, get_or, slice_get, refl, sym, ap, ◌∙◌, subst, arith, inl, inr, ◌⊎◌, eq-eqb}
use Rattle.std.specs.List.{list_any}
use Rattle.std.proofs.lemmas.Bool.{cases_eq, ne_eqb, false≢true}
use Rattle.std.proofs.lemmas.List.{length-map, length-replicate, length-set, get_or-set_same, get_or-set_other, get_or_append_left}
use Rattle.std.proofs.Math.Seq.{get_or-append_seam}
use Rattle.std.proofs.lemmas.List.Folds.{list_any-append}
use Rattle.std.proofs.lemmas.Option.{slice_get_within}
use Rattle.mdl_plan.proofs.Elements.{get_within, get_behind}
use Rattle.mdl_plan.specs.Numbers.{AreEmpty, Marked, once}
use Rattle.mdl_plan.specs.Sparse.{AddsPlaces, AreOwn, row_at, rows_of}

-- the row of a procedure
pub row_is : (numbers : List ℕ) (rows : List (List ℕ)) (q : ℕ) → get_or (rows_of numbers rows) q [] ≡ row_at rows (get_or numbers q 0)
row_is [] rows q = refl
row_is (n ∷ numbers) rows zero = refl
row_is (n ∷ numbers) rows (suc q) = row_is numbers rows q

-- row number r + 1 is that at place r
row_more : (rows : List (List ℕ)) (n r : ℕ) → n ≡ r + 1 → row_at rows n ≡ get_or rows r []
row_more rows n r e = let k : n ≡ suc r = omega (arith, e) in ap (row_at rows) k

-- what holds of all lists after a mark, where it holds of the one of the procedure and of each other
marked : (i q : ℕ) (old new : List (List ℕ)) → length new ≡ length old → get_or new q [] ≡ once i (get_or old q []) → ((p : ℕ) → (q ≡ p → ⊥) → get_or new p [] ≡ get_or old p []) → Marked i (q ∷ []) old new
marked i q old new len here other = record {
  len = len;
  at = λ p lt. by p (cases_eq q p);
}
  where
    by : (p : ℕ) → (q ≡ p) ⊎ (q ≡ p → ⊥) → get_or new p [] ≡ cond ((q == p) || false) (once i (get_or old p [])) (get_or old p [])
    by p (inl same) =
        subst (λ (k : ℕ). get_or new k [] ≡ once i (get_or old k [])) same here
        ∙ sym (ap (λ (b : Bool). cond (b || false) (once i (get_or old p [])) (get_or old p [])) (eq-eqb q p same))
    by p (inr differs) =
        other p differs
        ∙ sym (ap (λ (b : Bool). cond (b || false) (once i (get_or old p [])) (get_or old p [])) (ne_eqb q p differs))

module _ (numbers owners : List ℕ) (rows : List (List ℕ)) (own : AreOwn numbers owners) (many : length rows ≡ length owners) where
  -- a procedure's row is one of the rows
  row_there : (q r : ℕ) → get_or numbers q 0 ≡ r + 1 → r < length rows
  row_there q r e = omega (arith, many, slice_get_within owners r q (own q r e))

  pub own_row : (q n : ℕ) → get_or numbers q 0 ≡ n → 0 < n → n - 1 < length rows
  own_row q n e some = let k : get_or numbers q 0 ≡ n - 1 + 1 = omega (arith, e, some) in row_there q (n - 1) k

  -- a row of a procedure that had none
  pub mark_new : (q i : ℕ) → q < length numbers → get_or numbers q 0 ≡ 0 → Marked i (q ∷ []) (rows_of numbers rows) (rows_of (set numbers q (length rows + 1)) (rows ++ (i ∷ []) ∷ []))
  mark_new q i lt none =
      marked i q (rows_of numbers rows) (rows_of (set numbers q (length rows + 1)) (rows ++ (i ∷ []) ∷ [])) (simp (length-map, length-set))
      (row_is (set numbers q (length rows + 1)) (rows ++ (i ∷ []) ∷ []) q
      ∙ ap (row_at (rows ++ (i ∷ []) ∷ [])) (get_or-set_same numbers q (length rows + 1) 0 lt)
      ∙ row_more (rows ++ (i ∷ []) ∷ []) (length rows + 1) (length rows) refl
      ∙ get_or-append_seam rows (i ∷ []) [] []
      ∙ sym (ap (once i) (row_is numbers rows q ∙ ap (row_at rows) none)))
      (λ p differs.
      row_is (set numbers q (length rows + 1)) (rows ++ (i ∷ []) ∷ []) p
      ∙ ap (row_at (rows ++ (i ∷ []) ∷ [])) (get_or-set_other numbers q p (length rows + 1) 0 (λ (e : p ≡ q). differs (sym e)))
      ∙ kept p (get_or numbers p 0) refl
      ∙ sym (row_is numbers rows p))
    where
      kept : (p n : ℕ) → get_or numbers p 0 ≡ n → row_at (rows ++ (i ∷ []) ∷ []) n ≡ row_at rows n
      kept p zero e = refl
      kept p (suc r) e = let k : get_or numbers p 0 ≡ r + 1 = omega (arith, e) in get_or_append_left rows ((i ∷ []) ∷ []) [] r (row_there p r k)

  pub own_new : (q n : ℕ) → q < length numbers → n ≡ length rows + 1 → AreOwn (set numbers q n) (owners ++ q ∷ [])
  own_new q n lt is p r e = by (cases_eq q p)
    where
      by : (q ≡ p) ⊎ (q ≡ p → ⊥) → slice_get (owners ++ q ∷ []) r ≡ Some p
      by (inl same) =
          let number : n ≡ r + 1 = sym (get_or-set_same numbers q n 0 lt) ∙ ap (λ (k : ℕ). get_or (set numbers q n) k 0) same ∙ e in
          let last : length owners ≡ r = omega (arith, many, is, number) in
          subst (λ (k : ℕ). slice_get (owners ++ q ∷ []) k ≡ Some p) last (get_behind owners q [] ∙ ap (λ (k : ℕ). Some k) same)
      by (inr differs) =
          let there : slice_get owners r ≡ Some p = own p r (sym (get_or-set_other numbers q p n 0 (λ (k : p ≡ q). differs (sym k))) ∙ e) in
          get_within owners q r (slice_get_within owners r p there) ∙ there

  -- one more number in a row that is there
  pub mark_row : (q n i : ℕ) → get_or numbers q 0 ≡ n → 0 < n → Marked i (q ∷ []) (rows_of numbers rows) (rows_of numbers (set rows (n - 1) (once i (get_or rows (n - 1) []))))
  mark_row q n i is some =
      let number : get_or numbers q 0 ≡ n - 1 + 1 = omega (arith, is, some) in
      let changed = set rows (n - 1) (once i (get_or rows (n - 1) [])) in
      marked i q (rows_of numbers rows) (rows_of numbers changed) (simp length-map)
      (row_is numbers changed q
      ∙ row_more changed (get_or numbers q 0) (n - 1) number
      ∙ get_or-set_same rows (n - 1) (once i (get_or rows (n - 1) [])) [] (row_there q (n - 1) number)
      ∙ ap (once i) (sym (row_is numbers rows q ∙ row_more rows (get_or numbers q 0) (n - 1) number)))
      (λ p differs. row_is numbers changed p ∙ kept p differs number (get_or numbers p 0) refl ∙ sym (row_is numbers rows p))
    where
      same : (p : ℕ) → slice_get owners (n - 1) ≡ Some q → slice_get owners (n - 1) ≡ Some p → q ≡ p
      same p h k = cc

      kept : (p : ℕ) → (q ≡ p → ⊥) → get_or numbers q 0 ≡ n - 1 + 1 → (m : ℕ) → get_or numbers p 0 ≡ m → row_at (set rows (n - 1) (once i (get_or rows (n - 1) []))) m ≡ row_at rows m
      kept p differs number zero e = refl
      kept p differs number (suc r) e =
          let k : get_or numbers p 0 ≡ r + 1 = omega (arith, e) in
          get_or-set_other rows (n - 1) r (once i (get_or rows (n - 1) [])) [] (λ (at : r ≡ n - 1). differs (same p (own q (n - 1) number) (subst (λ (j : ℕ). slice_get owners j ≡ Some p) at (own p r k))))

-- no procedure has a row
no_row : (n q : ℕ) → get_or (rows_of (replicate n 0) []) q [] ≡ []
no_row zero q = refl
no_row (suc n) zero = refl
no_row (suc n) (suc q) = no_row n q

pub none_yet : (n : ℕ) (numbers : List ℕ) (rows : List (List ℕ)) → numbers ≡ replicate n 0 → rows ≡ [] → AreEmpty n (rows_of numbers rows)
none_yet n numbers rows e k =
    subst (λ (ns : List ℕ). AreEmpty n (rows_of ns rows)) (sym e)
    (subst (λ (rs : List (List ℕ)). AreEmpty n (rows_of (replicate n 0) rs)) (sym k) (record { len = simp (length-map, length-replicate); at = no_row n }))

-- ---- places

abbrev has : List ℕ → ℕ → Bool
has places i = list_any (λ j. j == i) places

or_true : (b : Bool) → (b || true) ≡ true
or_true true = refl
or_true false = refl

-- what one of the joined lists has
in_joined : (lists : ℕ → List ℕ) (owners : List ℕ) (r q i : ℕ) → slice_get owners r ≡ Some q → has (lists q) i ≡ true → has (flat_map lists owners) i ≡ true
in_joined lists [] r q i at there = cc
in_joined lists (o ∷ owners) zero q i at there =
    let same : o ≡ q = cc in
    list_any-append (λ j. j == i) (lists o) (flat_map lists owners)
    ∙ ap (λ (b : Bool). b || has (flat_map lists owners) i) (ap (λ (p : ℕ). has (lists p) i) same ∙ there)
in_joined lists (o ∷ owners) (suc r) q i at there =
    list_any-append (λ j. j == i) (lists o) (flat_map lists owners)
    ∙ ap (λ (b : Bool). has (lists o) i || b) (in_joined lists owners r q i at there)
    ∙ or_true (has (lists o) i)

-- the owners' places are added
pub adds_owned : (numbers owners : List ℕ) (rows by_proc : List (List ℕ)) (old new : List ℕ) → AreOwn numbers owners → new ≡ old ++ flat_map (λ q. get_or by_proc q []) owners
    → AddsPlaces (rows_of numbers rows) by_proc old new
adds_owned numbers owners rows by_proc old new own is =
    let all = flat_map (λ q. get_or by_proc q []) owners in
    let both : (i : ℕ) → has new i ≡ (has old i || has all i) = λ i. ap (λ (l : List ℕ). has l i) is ∙ list_any-append (λ j. j == i) old all in
    record {
      kept = λ i there. both i ∙ ap (λ (b : Bool). b || has all i) there;
      added = λ q i some there.
          let kept_all = (λ (r : ℕ) (e : get_or numbers q 0 ≡ r + 1). in_joined (λ p. get_or by_proc p []) owners r q i (own q r e) there) in
          both i ∙ ap (λ (b : Bool). has old i || b) (by q (get_or numbers q 0) refl (sym (ap (λ (l : List ℕ). nat_lt 0 (length l)) (row_is numbers rows q)) ∙ some) (has all i) kept_all) ∙ or_true (has old i);
    }
  where
    by : (q n : ℕ) → get_or numbers q 0 ≡ n → nat_lt 0 (length (row_at rows (get_or numbers q 0))) ≡ true → (b : Bool) → ((r : ℕ) → get_or numbers q 0 ≡ r + 1 → b ≡ true) → b ≡ true
    by q zero e some b step = absurd (false≢true (sym (ap (λ (k : ℕ). nat_lt 0 (length (row_at rows k))) e) ∙ some))
    by q (suc r) e some b step = step r (omega (arith, e))
