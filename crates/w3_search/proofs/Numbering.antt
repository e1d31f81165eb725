-- The numbers of nodes that pass a test.
use Rattle.std.proofs.Common.{◌≡◌, ℕ, zero, suc, ◌+◌, ◌<◌, ◌≤◌, Bool, true, false, cond, Some, List, [], ◌∷◌, ◌++◌, length, map, refl, sym, ap, subst, ◌∙◌, arith, eq-eqb}
use Rattle.std.specs.Prelude.{slice_get, nat_lt}
use Rattle.std.specs.List.{AllByRecursion}
use Rattle.std.proofs.lemmas.Bool.{cond_both, le-ltb, lt-ltb, ne_eqb}
use Rattle.w3_search.specs.declared.node.Node.{Node}
use Rattle.w3_search.specs.Index.{inserted, without}
use Rattle.w3_search.specs.Nodes.{with_node_changed, node_numbers_from}

module _ (p : Node → Bool) where
  -- one more node
  pub numbers_push : (i : ℕ) (ns : List Node) (n : Node) → node_numbers_from p i (ns ++ n ∷ []) ≡ node_numbers_from p i ns ++ cond (p n) ((i + length ns) ∷ []) []
  numbers_push i [] n =
      let z : i ≡ i + 0 = omega arith in
      ap (λ (k : ℕ). cond (p n) (k ∷ []) []) z
  numbers_push i (m ∷ ns) n = by (p m) (numbers_push (i + 1) ns n)
    where
      k : (i + 1) + length ns ≡ i + suc (length ns)
      k = omega arith

      by : (b : Bool) → node_numbers_from p (i + 1) (ns ++ n ∷ []) ≡ node_numbers_from p (i + 1) ns ++ cond (p n) (((i + 1) + length ns) ∷ []) []
          → cond b (i ∷ node_numbers_from p (i + 1) (ns ++ n ∷ [])) (node_numbers_from p (i + 1) (ns ++ n ∷ [])) ≡ cond b (i ∷ node_numbers_from p (i + 1) ns) (node_numbers_from p (i + 1) ns) ++ cond (p n) ((i + suc (length ns)) ∷ []) []
      by true h = ap (λ (l : List ℕ). i ∷ l) (h ∙ ap (λ (j : ℕ). node_numbers_from p (i + 1) ns ++ cond (p n) (j ∷ []) []) k)
      by false h = h ∙ ap (λ (j : ℕ). node_numbers_from p (i + 1) ns ++ cond (p n) (j ∷ []) []) k

  -- there are no more of them than nodes
  pub few_numbers : (i : ℕ) (ns : List Node) → length (node_numbers_from p i ns) ≤ length ns
  few_numbers i [] = omega arith
  few_numbers i (n ∷ ns) =
      cond_both (p n) (i ∷ node_numbers_from p (i + 1) ns) (node_numbers_from p (i + 1) ns) (λ (l : List ℕ). length l ≤ suc (length ns))
      (λ _. omega (arith, few_numbers (i + 1) ns)) (λ _. omega (arith, few_numbers (i + 1) ns))

  -- they are numbers of nodes
  pub numbers_below : (i : ℕ) (ns : List Node) → AllByRecursion (λ k. k < i + length ns) (node_numbers_from p i ns)
  numbers_below i [] = tt
  numbers_below i (n ∷ ns) = by (p n) (subst (λ (j : ℕ). AllByRecursion (λ k. k < j) (node_numbers_from p (i + 1) ns)) e (numbers_below (i + 1) ns))
    where
      e : (i + 1) + length ns ≡ i + suc (length ns)
      e = omega arith

      by : (b : Bool) → AllByRecursion (λ k. k < i + suc (length ns)) (node_numbers_from p (i + 1) ns) → AllByRecursion (λ k. k < i + suc (length ns)) (cond b (i ∷ node_numbers_from p (i + 1) ns) (node_numbers_from p (i + 1) ns))
      by true h = (omega arith, h)
      by false h = h

  pub numbers_within : (ns : List Node) → AllByRecursion (λ k. k < length ns) (node_numbers_from p 0 ns)
  numbers_within ns =
      let z : 0 + length ns ≡ length ns = omega arith in
      subst (λ (j : ℕ). AllByRecursion (λ k. k < j) (node_numbers_from p 0 ns)) z (numbers_below 0 ns)

  -- a changed node that passes as before
  pub numbers_stay : (f : Node → Node) (ns : List Node) (i k : ℕ) (n : Node) → slice_get ns i ≡ Some n → p (f n) ≡ p n → node_numbers_from p k (with_node_changed f i ns) ≡ node_numbers_from p k ns
  numbers_stay f [] i k n e same = refl
  numbers_stay f (x ∷ ns) zero k n e same =
      let s : x ≡ n = cc in
      ap (λ (b : Bool). cond b (k ∷ node_numbers_from p (k + 1) ns) (node_numbers_from p (k + 1) ns)) (ap (λ (y : Node). p (f y)) s ∙ same ∙ ap p (sym s))
  numbers_stay f (x ∷ ns) (suc i) k n e same = ap (λ (l : List ℕ). cond (p x) (k ∷ l) l) (numbers_stay f ns i (k + 1) n e same)

  -- a changed node that passes no more
  pub numbers_leave : (f : Node → Node) (ns : List Node) (i k : ℕ) (n : Node) → slice_get ns i ≡ Some n → p n ≡ true → p (f n) ≡ false → node_numbers_from p k (with_node_changed f i ns) ≡ without (k + i) (node_numbers_from p k ns)
  numbers_leave f [] i k n e a b = cc
  numbers_leave f (x ∷ ns) zero k n e a b =
      let s : x ≡ n = cc in
      let rest = node_numbers_from p (k + 1) ns in
      ap (λ (c : Bool). cond c (k ∷ rest) rest) (ap (λ (y : Node). p (f y)) s ∙ b)
      ∙ sym (ap (λ (c : Bool). cond c rest (k ∷ without (k + 0) rest)) (eq-eqb k (k + 0) (omega arith)))
      ∙ sym (ap (λ (c : Bool). without (k + 0) (cond c (k ∷ rest) rest)) (ap p s ∙ a))
  numbers_leave f (x ∷ ns) (suc i) k n e a b = by (p x) (numbers_leave f ns i (k + 1) n e a b)
    where
      j : (k + 1) + i ≡ k + suc i
      j = omega arith

      by : (c : Bool) → node_numbers_from p (k + 1) (with_node_changed f i ns) ≡ without ((k + 1) + i) (node_numbers_from p (k + 1) ns)
          → cond c (k ∷ node_numbers_from p (k + 1) (with_node_changed f i ns)) (node_numbers_from p (k + 1) (with_node_changed f i ns)) ≡ without (k + suc i) (cond c (k ∷ node_numbers_from p (k + 1) ns) (node_numbers_from p (k + 1) ns))
      by true h =
          ap (λ (l : List ℕ). k ∷ l) (h ∙ ap (λ (q : ℕ). without q (node_numbers_from p (k + 1) ns)) j)
          ∙ sym (ap (λ (d : Bool). cond d (node_numbers_from p (k + 1) ns) (k ∷ without (k + suc i) (node_numbers_from p (k + 1) ns))) (ne_eqb k (k + suc i) (λ (q : k ≡ k + suc i). omega arith)))
      by false h = h ∙ ap (λ (q : ℕ). without q (node_numbers_from p (k + 1) ns)) j

  -- a number below all goes in front
  goes_first : (k j : ℕ) (ns : List Node) → k < j → inserted k (node_numbers_from p j ns) ≡ k ∷ node_numbers_from p j ns
  goes_first k j [] lt = refl
  goes_first k j (n ∷ ns) lt = by (p n) (goes_first k (j + 1) ns (omega arith))
    where
      by : (c : Bool) → inserted k (node_numbers_from p (j + 1) ns) ≡ k ∷ node_numbers_from p (j + 1) ns
          → inserted k (cond c (j ∷ node_numbers_from p (j + 1) ns) (node_numbers_from p (j + 1) ns)) ≡ k ∷ cond c (j ∷ node_numbers_from p (j + 1) ns) (node_numbers_from p (j + 1) ns)
      by true h =
          ap (λ (b : Bool). cond b (j ∷ inserted k (node_numbers_from p (j + 1) ns)) (k ∷ j ∷ node_numbers_from p (j + 1) ns)) (le-ltb j k (omega arith))
      by false h = h

  -- a changed node that passes now
  pub numbers_join : (f : Node → Node) (ns : List Node) (i k : ℕ) (n : Node) → slice_get ns i ≡ Some n → p n ≡ false → p (f n) ≡ true → node_numbers_from p k (with_node_changed f i ns) ≡ inserted (k + i) (node_numbers_from p k ns)
  numbers_join f [] i k n e a b = cc
  numbers_join f (x ∷ ns) zero k n e a b =
      let s : x ≡ n = cc in
      let z : k ≡ k + 0 = omega arith in
      let rest = node_numbers_from p (k + 1) ns in
      ap (λ (c : Bool). cond c (k ∷ rest) rest) (ap (λ (y : Node). p (f y)) s ∙ b)
      ∙ sym (goes_first k (k + 1) ns (omega arith))
      ∙ ap (λ (q : ℕ). inserted q rest) z
      ∙ sym (ap (λ (c : Bool). inserted (k + 0) (cond c (k ∷ rest) rest)) (ap p s ∙ a))
  numbers_join f (x ∷ ns) (suc i) k n e a b = by (p x) (numbers_join f ns i (k + 1) n e a b)
    where
      j : (k + 1) + i ≡ k + suc i
      j = omega arith

      by : (c : Bool) → node_numbers_from p (k + 1) (with_node_changed f i ns) ≡ inserted ((k + 1) + i) (node_numbers_from p (k + 1) ns)
          → cond c (k ∷ node_numbers_from p (k + 1) (with_node_changed f i ns)) (node_numbers_from p (k + 1) (with_node_changed f i ns)) ≡ inserted (k + suc i) (cond c (k ∷ node_numbers_from p (k + 1) ns) (node_numbers_from p (k + 1) ns))
      by true h =
          ap (λ (l : List ℕ). k ∷ l) (h ∙ ap (λ (q : ℕ). inserted q (node_numbers_from p (k + 1) ns)) j)
          ∙ sym (ap (λ (d : Bool). cond d (k ∷ inserted (k + suc i) (node_numbers_from p (k + 1) ns)) ((k + suc i) ∷ k ∷ node_numbers_from p (k + 1) ns)) (lt-ltb k (k + suc i) (omega arith)))
      by false h = h ∙ ap (λ (q : ℕ). inserted q (node_numbers_from p (k + 1) ns)) j

  -- nodes that pass as before
  pub numbers_map : (f : Node → Node) → ((n : Node) → p (f n) ≡ p n) → (k : ℕ) (ns : List Node) → node_numbers_from p k (map f ns) ≡ node_numbers_from p k ns
  numbers_map f same k [] = refl
  numbers_map f same k (n ∷ ns) =
      ap (λ (b : Bool). cond b (k ∷ node_numbers_from p (k + 1) (map f ns)) (node_numbers_from p (k + 1) (map f ns))) (same n)
      ∙ ap (λ (l : List ℕ). cond (p n) (k ∷ l) l) (numbers_map f same (k + 1) ns)

  -- nodes of which none passes
  pub numbers_none : (f : Node → Node) → ((n : Node) → p (f n) ≡ false) → (k : ℕ) (ns : List Node) → node_numbers_from p k (map f ns) ≡ []
  numbers_none f none k [] = refl
  numbers_none f none k (n ∷ ns) =
      ap (λ (b : Bool). cond b (k ∷ node_numbers_from p (k + 1) (map f ns)) (node_numbers_from p (k + 1) (map f ns))) (none n)
      ∙ numbers_none f none (k + 1) ns

pub length_inserted : (k : ℕ) (ms : List ℕ) → length (inserted k ms) ≡ suc (length ms)
length_inserted k [] = refl
length_inserted k (m ∷ ms) =
    cond_both (nat_lt m k) (m ∷ inserted k ms) (k ∷ m ∷ ms) (λ (l : List ℕ). length l ≡ suc (suc (length ms))) (λ _. ap suc (length_inserted k ms)) (λ _. refl)
