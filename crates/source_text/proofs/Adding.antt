-- The ticks at sources add up.
use Rattle.std.proofs.Common.{◌≡◌, ℕ, zero, suc, ◌+◌, ◌<◌, ◌≤◌, List, [], ◌∷◌, length, get_or, map, Bool, true, false, cond, eqb, leb, refl, ap, sym, subst, ◌∙◌, arith}
use Rattle.std.specs.Prelude.{sum_by}
use Rattle.std.specs.List.{filter}
use Rattle.std.proofs.lemmas.Bool.Decides.{nat_tests}
use Rattle.std.proofs.lemmas.List.Sums.{sum_by-cons}
use Rattle.line_table.specs.declared.registers.Row.{Row}
use Rattle.profile_text.specs.declared.numbered_word.NumberedWord.{NumberedWord}
use Rattle.source_text.specs.Laws.{order_at}
use Rattle.source_text.specs.Ordered.{insert_by, ordered_by}
use Rattle.source_text.specs.Ticks.{merged, merged_from, order, source_ticks, ticks_at}
use Rattle.source_text.specs.declared.source.SourceTicks.{SourceTicks}
use Rattle.source_text.proofs.Ordering.{Rises, ordered-rises}

-- neighbours of one source as one
abbrev together : SourceTicks → SourceTicks → SourceTicks
together x y = record { source = x.source; ticks = x.ticks + y.ticks }

same_order : (a b : ℕ) → eqb a b ≡ true → a ≡ b
same_order a b e = grind (arith, nat_tests)

other_order : (a b : ℕ) → a ≤ b → eqb a b ≡ false → a + 1 ≤ b
other_order a b l e = grind (arith, nat_tests)

-- ---- any set of sources has the same ticks

module _ (test : ℕ → Bool) where
  abbrev ticks_in : List SourceTicks → ℕ
  ticks_in xs = sum_by (λ x. x.ticks) (filter (λ x. test (order x)) xs)

  one : (b : Bool) (x : SourceTicks) (xs : List SourceTicks) → sum_by (λ y. y.ticks) (cond b (x ∷ xs) xs) ≡ cond b x.ticks 0 + sum_by (λ y. y.ticks) xs
  one true x xs = sum_by-cons (λ (y : SourceTicks). y.ticks) x xs
  one false x xs = omega arith

  one_word : (b : Bool) (x : NumberedWord) (xs : List NumberedWord) → sum_by (λ y. y.number) (cond b (x ∷ xs) xs) ≡ cond b x.number 0 + sum_by (λ y. y.number) xs
  one_word true x xs = sum_by-cons (λ (y : NumberedWord). y.number) x xs
  one_word false x xs = omega arith

  head : (x : SourceTicks) (xs : List SourceTicks) → ticks_in (x ∷ xs) ≡ cond (test (order x)) x.ticks 0 + ticks_in xs
  head x xs = one (test (order x)) x (filter (λ y. test (order y)) xs)

  both : (b : Bool) (m n : ℕ) → cond b (m + n) 0 ≡ cond b m 0 + cond b n 0
  both true m n = refl
  both false m n = omega arith

  merge : (b : Bool) (x y : SourceTicks) (ys : List SourceTicks) → (b ≡ true → order x ≡ order y)
      → ticks_in (merged_from (together x y) ys) ≡ ticks_in (together x y ∷ ys) → ticks_in (merged_from y ys) ≡ ticks_in (y ∷ ys)
      → ticks_in (cond b (merged_from (together x y) ys) (x ∷ merged_from y ys)) ≡ ticks_in (x ∷ (y ∷ ys))
  merge true x y ys e h g =
      let a = head (together x y) ys in
      let b = both (test (order x)) x.ticks y.ticks in
      let c = ap (λ k. cond (test k) y.ticks 0) (e refl) in
      let d = head x (y ∷ ys) in
      let f = head y ys in
      omega arith
  merge false x y ys e h g =
      let a = head x (merged_from y ys) in
      let d = head x (y ∷ ys) in
      omega arith

  merged_from-in : (x : SourceTicks) (ys : List SourceTicks) → ticks_in (merged_from x ys) ≡ ticks_in (x ∷ ys)
  merged_from-in x [] = refl
  merged_from-in x (y ∷ ys) =
      merge (eqb (order x) (order y)) x y ys (same_order (order x) (order y)) (merged_from-in (together x y) ys) (merged_from-in y ys)

  merged-in : (xs : List SourceTicks) → ticks_in (merged xs) ≡ ticks_in xs
  merged-in [] = refl
  merged-in (x ∷ xs) = merged_from-in x xs

  insert : (b : Bool) (x y : SourceTicks) (ys zs : List SourceTicks) → ticks_in zs ≡ ticks_in (x ∷ ys)
      → ticks_in (cond b (x ∷ (y ∷ ys)) (y ∷ zs)) ≡ ticks_in (x ∷ (y ∷ ys))
  insert true x y ys zs h = refl
  insert false x y ys zs h =
      let a = head y zs in
      let b = head x ys in
      let c = head x (y ∷ ys) in
      let d = head y ys in
      omega arith

  insert-in : (x : SourceTicks) (ys : List SourceTicks) → ticks_in (insert_by order x ys) ≡ ticks_in (x ∷ ys)
  insert-in x [] = refl
  insert-in x (y ∷ ys) = insert (leb (order x) (order y)) x y ys (insert_by order x ys) (insert-in x ys)

  ordered-in : (xs : List SourceTicks) → ticks_in (ordered_by order xs) ≡ ticks_in xs
  ordered-in [] = refl
  ordered-in (x ∷ xs) =
      let a = insert-in x (ordered_by order xs) in
      let b = head x (ordered_by order xs) in
      let c = head x xs in
      let d = ordered-in xs in
      omega arith

  words-in : (rows : List Row) (xs : List NumberedWord)
      → ticks_in (map (ticks_at rows) xs) ≡ sum_by (λ x. x.number) (filter (λ x. test (order_at rows x)) xs)
  words-in rows [] = refl
  words-in rows (x ∷ xs) =
      let a = head (ticks_at rows x) (map (ticks_at rows) xs) in
      let b = words-in rows xs in
      let c = one_word (test (order_at rows x)) x (filter (λ y. test (order_at rows y)) xs) in
      a ∙ ap (λ s. cond (test (order_at rows x)) x.number 0 + s) b ∙ sym c

  pub any_add_up : (rows : List Row) (words : List NumberedWord)
      → sum_by (λ x. x.ticks) (filter (λ x. test (order x)) (source_ticks rows words)) ≡ sum_by (λ x. x.number) (filter (λ x. test (order_at rows x)) words)
  any_add_up rows words =
      merged-in (ordered_by order (map (ticks_at rows) words)) ∙ ordered-in (map (ticks_at rows) words) ∙ words-in rows words

-- ---- all sources

all_pass : {X : Type 0} (xs : List X) → filter (λ x. true) xs ≡ xs
all_pass [] = refl
all_pass (x ∷ xs) = ap (λ z. x ∷ z) (all_pass xs)

pub all_add_up : (rows : List Row) (words : List NumberedWord) → sum_by (λ x. x.ticks) (source_ticks rows words) ≡ sum_by (λ x. x.number) words
all_add_up rows words =
    ap (sum_by (λ (x : SourceTicks). x.ticks)) (sym (all_pass (source_ticks rows words)))
    ∙ any_add_up (λ k. true) rows words
    ∙ ap (sum_by (λ (x : NumberedWord). x.number)) (all_pass words)

-- ---- the sources rise

-- each order is above the one before, and the first is at least k
abbrev From : ℕ → List SourceTicks → Type 0
From k [] = Unit {0}
From k (x ∷ xs) = (k ≤ order x) × From (order x + 1) xs

climb : (b : Bool) (k : ℕ) (x y : SourceTicks) (ys : List SourceTicks) → k ≤ order x
    → (b ≡ true → From k (merged_from (together x y) ys)) → (b ≡ false → From (order x + 1) (merged_from y ys))
    → From k (cond b (merged_from (together x y) ys) (x ∷ merged_from y ys))
climb true k x y ys l h g = h refl
climb false k x y ys l h g = (l, g refl)

merged_from-rises : (k : ℕ) (x : SourceTicks) (ys : List SourceTicks) → k ≤ order x → Rises order (order x) ys → From k (merged_from x ys)
merged_from-rises k x [] l h = (l, tt)
merged_from-rises k x (y ∷ ys) l h =
    climb (eqb (order x) (order y)) k x y ys l
    (λ e. merged_from-rises k (together x y) ys l (subst (λ j. Rises order j ys) (sym (same_order (order x) (order y) e)) h.1))
    (λ e. merged_from-rises (order x + 1) y ys (other_order (order x) (order y) h.0 e) h.1)

merged-rises : (xs : List SourceTicks) → Rises order 0 xs → From 0 (merged xs)
merged-rises [] h = tt
merged-rises (x ∷ xs) h = merged_from-rises 0 x xs (omega arith) h.1

next : (n : ℕ) (ns : List ℕ) (j : ℕ) → get_or ns j 0 < get_or ns (j + 1) 0 → get_or (n ∷ ns) (suc j) 0 < get_or (n ∷ ns) (suc j + 1) 0
next n ns j h =
    let e : suc (j + 1) ≡ suc j + 1 = omega arith in
    subst (λ i. get_or ns j 0 < get_or (n ∷ ns) i 0) e h

increasing : (k : ℕ) (xs : List SourceTicks) → From k xs → (j : ℕ) → j + 1 < length (map order xs) → get_or (map order xs) j 0 < get_or (map order xs) (j + 1) 0
increasing k [] h j l = absurd (omega arith)
increasing k (x ∷ []) h j l = absurd (omega arith)
increasing k (x ∷ (y ∷ ys)) h zero l = let a = h.1.0 in omega arith
increasing k (x ∷ (y ∷ ys)) h (suc j) l =
    next (order x) (map order (y ∷ ys)) j (increasing (order x + 1) (y ∷ ys) h.1 j (omega arith))

pub sources_rise : (rows : List Row) (words : List NumberedWord) (j : ℕ) → j + 1 < length (map order (source_ticks rows words))
    → get_or (map order (source_ticks rows words)) j 0 < get_or (map order (source_ticks rows words)) (j + 1) 0
sources_rise rows words =
    increasing 0 (source_ticks rows words) (merged-rises (ordered_by order (map (ticks_at rows) words)) (ordered-rises order (map (ticks_at rows) words)))
