-- The points at ascending places.
use Rattle.std.proofs.Common.{◌≡◌, ℕ, zero, suc, ◌+◌, ◌-◌, ◌<◌, ◌≤◌, ◌==◌, ◌||◌, cond, Bool, true, false, Some, List, [], ◌∷◌, ◌++◌, flat_map, slice_get, refl, sym, ap, ◌∙◌, subst, arith, inl, inr, ◌⊎◌}
use Rattle.std.specs.Prelude.{option_to_list}
use Rattle.std.specs.List.{filter, list_any, AllByRecursion}
use Rattle.std.proofs.lemmas.Bool.{cases_eq, ne_eqb, false≢true}
use Rattle.pn_types.specs.declared.code.Point.{Point}
use Rattle.mdl_plan.specs.Indexes.{gathered}
use Rattle.mdl_plan.proofs.Limits.{Ascend}

-- the point at a place that is counted from n, if there is one
abbrev at_from : ℕ → List Point → ℕ → List Point
at_from n xs i = option_to_list (slice_get xs (i - n))

all_weaker : (P Q : ℕ → Type 0) → ((m : ℕ) → P m → Q m) → (ns : List ℕ) → AllByRecursion P ns → AllByRecursion Q ns
all_weaker P Q f [] h = tt
all_weaker P Q f (n ∷ ns) h = (f n h.0, all_weaker P Q f ns h.1)

-- a number below all of a list is none of them
absent : (n : ℕ) (places : List ℕ) → AllByRecursion (λ m. n < m) places → list_any (λ j. j == n) places ≡ false
absent n [] h = refl
absent n (i ∷ places) h =
    ap (λ (b : Bool). b || list_any (λ j. j == n) places) (ne_eqb i n (λ (e : i ≡ n). omega (arith, h.0))) ∙ absent n places h.1

none_at : (n : ℕ) (places : List ℕ) → flat_map (at_from n []) places ≡ []
none_at n [] = refl
none_at n (i ∷ places) = none_at n places

-- the first point is none of them
shifted : (n : ℕ) (x : Point) (xs : List Point) (places : List ℕ) → AllByRecursion (λ m. n < m) places → flat_map (at_from n (x ∷ xs)) places ≡ flat_map (at_from (n + 1) xs) places
shifted n x xs [] h = refl
shifted n x xs (i ∷ places) h =
    let e : i - n ≡ suc (i - (n + 1)) = omega (arith, h.0) in
    ap (λ (k : ℕ). option_to_list (slice_get (x ∷ xs) k) ++ flat_map (at_from n (x ∷ xs)) places) e
    ∙ ap (λ (l : List Point). at_from (n + 1) xs i ++ l) (shifted n x xs places h.1)

from_zero : (xs : List Point) (places : List ℕ) → flat_map (at_from 0 xs) places ≡ gathered xs places
from_zero xs [] = refl
from_zero xs (i ∷ places) =
    let e : i - 0 ≡ i = omega arith in
    ap (λ (k : ℕ). option_to_list (slice_get xs k) ++ flat_map (at_from 0 xs) places) e
    ∙ ap (λ (l : List Point). option_to_list (slice_get xs i) ++ l) (from_zero xs places)

module _ (f : Point → Bool) where
  -- the place of each point that passes is among these
  abbrev Each : ℕ → List Point → List ℕ → Type 0
  Each n xs places = (k : ℕ) (x : Point) → slice_get xs k ≡ Some x → f x ≡ true → list_any (λ j. j == n + k) places ≡ true

  each_behind : (n : ℕ) (x : Point) (xs : List Point) (places : List ℕ) → Each n (x ∷ xs) places → Each (n + 1) xs places
  each_behind n x xs places each k y at passes =
      let e : n + suc k ≡ n + 1 + k = omega arith in
      subst (λ (m : ℕ). list_any (λ j. j == m) places ≡ true) e (each (suc k) y at passes)

  each_rest : (n : ℕ) (xs : List Point) (places : List ℕ) → Each (n + 1) xs (n ∷ places) → Each (n + 1) xs places
  each_rest n xs places each k y at passes =
      sym (ap (λ (b : Bool). b || list_any (λ j. j == n + 1 + k) places) (ne_eqb n (n + 1 + k) (λ (e : n ≡ n + 1 + k). omega arith))) ∙ each k y at passes

  fails : (n : ℕ) (x : Point) (xs : List Point) (places : List ℕ) → AllByRecursion (λ m. n < m) places → Each n (x ∷ xs) places → filter f (x ∷ xs) ≡ filter f xs
  fails n x xs places above each = by (f x) refl
    where
      by : (b : Bool) → f x ≡ b → cond b (x ∷ filter f xs) (filter f xs) ≡ filter f xs
      by false e = refl
      by true e =
          let zero_more : n + 0 ≡ n = omega arith in
          let there : list_any (λ j. j == n) places ≡ true = subst (λ (m : ℕ). list_any (λ j. j == m) places ≡ true) zero_more (each zero x refl e) in
          absurd (false≢true (sym (absent n places above) ∙ there))

  -- one point more in front
  pass_more : (n : ℕ) (x : Point) (xs : List Point) (i : ℕ) (places : List ℕ)
      → ((ps : List ℕ) → AllByRecursion (λ m. n + 1 ≤ m) ps → Ascend ps → Each (n + 1) xs ps → filter f (flat_map (at_from (n + 1) xs) ps) ≡ filter f xs)
      → AllByRecursion (λ m. n ≤ m) (i ∷ places) → Ascend (i ∷ places) → Each n (x ∷ xs) (i ∷ places) → filter f (flat_map (at_from n (x ∷ xs)) (i ∷ places)) ≡ filter f (x ∷ xs)
  pass_more n x xs i places pass low up each = by (cases_eq i n)
    where
      by : (i ≡ n) ⊎ (i ≡ n → ⊥) → filter f (flat_map (at_from n (x ∷ xs)) (i ∷ places)) ≡ filter f (x ∷ xs)
      by (inl same) =
          let above : AllByRecursion (λ m. n < m) places = all_weaker (λ m. i < m) (λ m. n < m) (λ m h. omega (arith, same, h)) places up.0 in
          let here : i - n ≡ 0 = omega (arith, same) in
          let behind : Each (n + 1) xs (n ∷ places) = each_behind n x xs (n ∷ places) (subst (λ (m : ℕ). Each n (x ∷ xs) (m ∷ places)) same each) in
          let rest = pass places (all_weaker (λ m. n < m) (λ m. n + 1 ≤ m) (λ m h. omega (arith, h)) places above) up.1 (each_rest n xs places behind) in
          ap (λ (k : ℕ). filter f (option_to_list (slice_get (x ∷ xs) k) ++ flat_map (at_from n (x ∷ xs)) places)) here
          ∙ ap (λ (l : List Point). filter f (x ∷ l)) (shifted n x xs places above)
          ∙ ap (λ (l : List Point). cond (f x) (x ∷ l) l) rest
      by (inr other) =
          let first : n < i = omega (arith, low.0, other) in
          let above : AllByRecursion (λ m. n < m) (i ∷ places) = (first, all_weaker (λ m. i < m) (λ m. n < m) (λ m h. omega (arith, first, h)) places up.0) in
          ap (filter f) (shifted n x xs (i ∷ places) above)
          ∙ pass (i ∷ places) (all_weaker (λ m. n < m) (λ m. n + 1 ≤ m) (λ m h. omega (arith, h)) (i ∷ places) above) up (each_behind n x xs (i ∷ places) each)
          ∙ sym (fails n x xs (i ∷ places) above each)

  pass_from : (n : ℕ) (xs : List Point) (places : List ℕ) → AllByRecursion (λ m. n ≤ m) places → Ascend places → Each n xs places
      → filter f (flat_map (at_from n xs) places) ≡ filter f xs
  pass_from n [] places low up each = ap (filter f) (none_at n places)
  pass_from n (x ∷ xs) [] low up each = pass_from (n + 1) xs [] tt tt (each_behind n x xs [] each) ∙ sym (fails n x xs [] tt each)
  pass_from n (x ∷ xs) (i ∷ places) low up each = pass_more n x xs i places (λ ps. pass_from (n + 1) xs ps) low up each

  all_above_zero : (ns : List ℕ) → AllByRecursion (λ m. 0 ≤ m) ns
  all_above_zero [] = tt
  all_above_zero (n ∷ ns) = (omega arith, all_above_zero ns)

  -- a filter loses nothing where the places ascend and hold those of all points that pass
  pub filter_gathered : (xs : List Point) (places : List ℕ) → Ascend places → ((i : ℕ) (x : Point) → slice_get xs i ≡ Some x → f x ≡ true → list_any (λ j. j == i) places ≡ true)
      → filter f (gathered xs places) ≡ filter f xs
  filter_gathered xs places up each =
      ap (filter f) (sym (from_zero xs places))
      ∙ pass_from 0 xs places (all_above_zero places) up
      (λ k x at passes. let e : k ≡ 0 + k = omega arith in subst (λ (m : ℕ). list_any (λ j. j == m) places ≡ true) e (each k x at passes))
