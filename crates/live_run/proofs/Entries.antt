-- Facts of each element, and the receipts of a worker.
use Rattle.std.proofs.Common.{◌≡◌, ◌≢◌, ◌⊎◌, inl, inr, ⊎_elim, ℕ, zero, suc, ◌+◌, ◌<◌, ◌≤◌, ◌==◌, eq-eqb, ne_eqb, List, [], ◌∷◌, ◌++◌, length, length-append, append_assoc, set, Bool, true, false, refl, sym, ap, ◌∙◌, subst, arith, take, Some}
use Rattle.std.specs.Prelude.{slice_get}
use mathlib.Core.Option.{some, some-injective, some-ne-none}
use lib.ListN.{get_elem?}
use Rattle.pn_types.specs.declared.quantum.Quantum.{Quantum}
use Rattle.live_run.specs.declared.view.Receipt.{Receipt}
use Rattle.std.specs.List.{AllByRecursion}
use Rattle.live_run.specs.Receipts.{receipt, receipts_of, with_if}

module _ {X : Type 0} where
  pub each_map : {P Q : X → Type 0} (xs : List X) → ((x : X) → P x → Q x) → AllByRecursion P xs → AllByRecursion Q xs
  each_map [] f h = tt
  each_map (x ∷ xs) f h = (f x h.0, each_map xs f h.1)

  pub each_append : (P : X → Type 0) (xs ys : List X) → AllByRecursion P xs → AllByRecursion P ys → AllByRecursion P (xs ++ ys)
  each_append P [] ys h k = k
  each_append P (x ∷ xs) ys h k = (h.0, each_append P xs ys h.1 k)

  -- what stands at a place of a list with one more
  pub old_or_last : (l : List X) (a b : X) (j : ℕ) → get_elem? (l ++ a ∷ []) j ≡ some b → (get_elem? l j ≡ some b) ⊎ ((j ≡ length l) × (a ≡ b))
  old_or_last [] a b zero e = inr (refl, some-injective a b e)
  old_or_last [] a b (suc j) e = absurd (some-ne-none b (sym e))
  old_or_last (x ∷ xs) a b zero e = inl e
  old_or_last (x ∷ xs) a b (suc j) e = ⊎_elim (λ h. inl h) (λ h. inr (ap suc h.0, h.1)) (old_or_last xs a b j e)

  pub in_range : (l : List X) (j : ℕ) (b : X) → get_elem? l j ≡ some b → j < length l
  in_range [] j b e = absurd (some-ne-none b (sym e))
  in_range (x ∷ xs) zero b e = omega arith
  in_range (x ∷ xs) (suc j) b e = let h = in_range xs j b e in omega arith

  pub length_set : (l : List X) (i : ℕ) (a : X) → length (set l i a) ≡ length l
  length_set [] i a = refl
  length_set (x ∷ xs) zero a = refl
  length_set (x ∷ xs) (suc i) a = ap suc (length_set xs i a)

-- a worker with no entry has no receipt
pub none_of : (worker n k : ℕ) (qs : List Quantum) → AllByRecursion (λ (q : Quantum). q.worker < n) qs → n ≤ worker → receipts_of worker k qs ≡ []
none_of worker n k [] h le = refl
none_of worker n k (q ∷ qs) h le =
    let ne : (q.worker == worker) ≡ false = ne_eqb q.worker worker (λ e. let lt = h.0 in omega arith) in
    ap (λ b. with_if b (receipt k q) (receipts_of worker (suc k) qs)) ne ∙ none_of worker n (suc k) qs h.1 le

with_if-append : (b : Bool) (r : Receipt) (rs ss : List Receipt) → with_if b r (rs ++ ss) ≡ with_if b r rs ++ ss
with_if-append true r rs ss = refl
with_if-append false r rs ss = refl

-- one more entry of the worker
pub one_of : (worker k n : ℕ) (qs : List Quantum) (q : Quantum) → q.worker ≡ worker → k + length qs ≡ n → receipts_of worker k (qs ++ q ∷ []) ≡ receipts_of worker k qs ++ receipt n q ∷ []
one_of worker k n [] q is at =
    let here : (q.worker == worker) ≡ true = eq-eqb q.worker worker is in
    ap (λ b. with_if b (receipt k q) []) here ∙ ap (λ m. receipt m q ∷ []) (let e : k ≡ n = omega arith in e)
one_of worker k n (x ∷ xs) q is at =
    ap (with_if (x.worker == worker) (receipt k x)) (one_of worker (suc k) n xs q is (omega arith)) ∙ with_if-append (x.worker == worker) (receipt k x) (receipts_of worker (suc k) xs) (receipt n q ∷ [])

-- one more entry of another worker
pub not_of : (worker k : ℕ) (qs : List Quantum) (q : Quantum) → q.worker ≢ worker → receipts_of worker k (qs ++ q ∷ []) ≡ receipts_of worker k qs
not_of worker k [] q ne = ap (λ b. with_if b (receipt k q) []) (ne_eqb q.worker worker ne)
not_of worker k (x ∷ xs) q ne = ap (with_if (x.worker == worker) (receipt k x)) (not_of worker (suc k) xs q ne)

with_if-each : (P : Receipt → Type 0) (b : Bool) (r : Receipt) (rs : List Receipt) → P r → AllByRecursion P rs → AllByRecursion P (with_if b r rs)
with_if-each P true r rs p h = (p, h)
with_if-each P false r rs p h = h

-- the numbers are below the next one
pub numbers_below : (worker k : ℕ) (qs : List Quantum) → AllByRecursion (λ (r : Receipt). r.number < k + length qs) (receipts_of worker k qs)
numbers_below worker k [] = tt
numbers_below worker k (q ∷ qs) =
    with_if-each (λ (r : Receipt). r.number < k + suc (length qs)) (q.worker == worker) (receipt k q) (receipts_of worker (suc k) qs) (omega arith)
    (each_map {P = λ (r : Receipt). r.number < suc k + length qs} {Q = λ (r : Receipt). r.number < k + suc (length qs)} (receipts_of worker (suc k) qs) (λ r h. omega arith) (numbers_below worker (suc k) qs))

-- a beginning of a list stays that of a longer one
pub take_longer : {X : Type 0} (n : ℕ) (xs ys : List X) → n ≤ length xs → take n (xs ++ ys) ≡ take n xs
take_longer zero xs ys le = refl
take_longer (suc n) [] ys le = absurd (omega arith)
take_longer (suc n) (x ∷ xs) ys le = ap (λ l. x ∷ l) (take_longer n xs ys (omega arith))

pub take_whole : {X : Type 0} (xs : List X) → take (length xs) xs ≡ xs
take_whole [] = refl
take_whole (x ∷ xs) = ap (λ l. x ∷ l) (take_whole xs)

at_end : (before : List Quantum) (q : Quantum) (qs : List Quantum) → slice_get (before ++ q ∷ qs) (length before) ≡ Some q
at_end [] q qs = refl
at_end (x ∷ before) q qs = at_end before q qs

-- a receipt's quantum stands at its number
pub stands : (worker : ℕ) (before qs : List Quantum) → AllByRecursion (λ (r : Receipt). slice_get (before ++ qs) r.number ≡ Some r.quantum) (receipts_of worker (length before) qs)
stands worker before [] = tt
stands worker before (q ∷ qs) =
    let whole : (before ++ q ∷ []) ++ qs ≡ before ++ q ∷ qs = append_assoc before (q ∷ []) qs in
    let long : length (before ++ q ∷ []) ≡ suc (length before) = omega (arith, length-append before (q ∷ [])) in
    let rest = subst (λ n. AllByRecursion (λ (r : Receipt). slice_get ((before ++ q ∷ []) ++ qs) r.number ≡ Some r.quantum) (receipts_of worker n qs)) long (stands worker (before ++ q ∷ []) qs) in
    with_if-each (λ (r : Receipt). slice_get (before ++ q ∷ qs) r.number ≡ Some r.quantum) (q.worker == worker) (receipt (length before) q) (receipts_of worker (suc (length before)) qs) (at_end before q qs)
    (subst (λ (l : List Quantum). AllByRecursion (λ (r : Receipt). slice_get l r.number ≡ Some r.quantum) (receipts_of worker (suc (length before)) qs)) whole rest)
