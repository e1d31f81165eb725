-- How high bars are.
use Rattle.std.proofs.Common.{◌≡◌, ◌*◌, ◌/◌, ◌^◌, ◌≤◌, ◌<◌, ◌⊎◌, ℕ, zero, suc, true, false, List, [], ◌∷◌, length, get_or, refl, ap, inl, inr, ⊎_elim, arith}
use Rattle.std.specs.Prelude.{nat_lt, if◌then◌else◌}
use Rattle.std.specs.List.{fold}
use Rattle.std.proofs.Math.Nat.{mul-le-mul_left}
use Rattle.std.proofs.lemmas.Bool.Decides.{nat_tests}
use Rattle.report_view.specs.Bars.{height, positive}
use Rattle.report_view.specs.Laws.{IsHeight}
use Rattle.report_view.specs.Signed.{greatest, is_negative, rank}

below_nine : (n : ℕ) → (n < 9) ⊎ (9 ≤ n)
below_nine n = elim (nat_lt n 9) as (λ b. nat_lt n 9 ≡ b → (n < 9) ⊎ (9 ≤ n)) [ true ↦ (λ e. inl (grind (arith, nat_tests))) | false ↦ (λ e. inr (grind (arith, nat_tests))) ] refl

at_most_eight : (most value n : ℕ) → 0 < most → n * most ≤ value * 8 → value ≤ most → n ≤ 8
at_most_eight most value n pos least le =
    ⊎_elim (λ (l : n < 9). omega arith) (λ (ge : 9 ≤ n). let m = mul-le-mul_left most ge in absurd (omega arith)) (below_nine n)

quotient : (most value n : ℕ) → 0 < most → n ≡ value * 8 / most → IsHeight most value n
quotient most value n pos e =
    let same : most * n ≡ most * (value * 8 / most) = ap (λ z. most * z) e in
    let l : n * most ≤ value * 8 = omega arith in
    record {
      least = l;
      greatest = omega arith;
      whole = at_most_eight most value n pos l;
    }

pub heights : (most value : ℕ) → 0 < most → IsHeight most value (height most value)
heights zero value pos = absurd (omega arith)
heights (suc most) value pos = quotient (suc most) value (height (suc most) value) pos (grind (arith, nat_tests))

-- ---- the greatest value

module _ (f : ℕ → ℕ) where
  abbrev later : ℕ → ℕ → ℕ
  later a b = if nat_lt (f a) (f b) then b else a

  later_first : (a b : ℕ) → f a ≤ f (later a b)
  later_first a b = elim (nat_lt (f a) (f b)) as (λ t. nat_lt (f a) (f b) ≡ t → f a ≤ f (if t then b else a)) [ true ↦ (λ e. grind (arith, nat_tests)) | false ↦ (λ e. omega arith) ] refl

  later_second : (a b : ℕ) → f b ≤ f (later a b)
  later_second a b = elim (nat_lt (f a) (f b)) as (λ t. nat_lt (f a) (f b) ≡ t → f b ≤ f (if t then b else a)) [ true ↦ (λ e. omega arith) | false ↦ (λ e. grind (arith, nat_tests)) ] refl

  fold_first : (a : ℕ) (xs : List ℕ) → f a ≤ f (fold later a xs)
  fold_first a [] = omega arith
  fold_first a (x ∷ xs) = omega (arith, later_first a x, fold_first (later a x) xs)

  fold_each : (a : ℕ) (xs : List ℕ) (k : ℕ) → k < length xs → f (get_or xs k 0) ≤ f (fold later a xs)
  fold_each a [] k l = absurd (omega arith)
  fold_each a (x ∷ xs) zero l = omega (arith, later_second a x, fold_first (later a x) xs)
  fold_each a (x ∷ xs) (suc k) l = fold_each (later a x) xs k (omega arith)

  later_small : (a b : ℕ) → a < 2 ^ 64 → b < 2 ^ 64 → later a b < 2 ^ 64
  later_small a b l m = elim (nat_lt (f a) (f b)) as (λ t. (if t then b else a) < 2 ^ 64) [ true ↦ m | false ↦ l ]

  fold_small : (a : ℕ) (xs : List ℕ) → a < 2 ^ 64 → ((k : ℕ) → k < length xs → get_or xs k 0 < 2 ^ 64) → fold later a xs < 2 ^ 64
  fold_small a [] l h = l
  fold_small a (x ∷ xs) l h = fold_small (later a x) xs (later_small a x l (h 0 (omega arith))) (λ k m. h (suc k) (omega arith))

greatest_ranks : (values : List ℕ) (k : ℕ) → k < length values → rank (get_or values k 0) ≤ rank (greatest values)
greatest_ranks [] k l = absurd (omega arith)
greatest_ranks (x ∷ xs) zero l = fold_first rank x xs
greatest_ranks (x ∷ xs) (suc k) l = fold_each rank x xs k (omega arith)

greatest_small : (values : List ℕ) → ((k : ℕ) → k < length values → get_or values k 0 < 2 ^ 64) → greatest values < 2 ^ 64
greatest_small [] h = omega arith
greatest_small (x ∷ xs) h = fold_small rank x xs (h 0 (omega arith)) (λ k l. h (suc k) (omega arith))

ranked : (v m : ℕ) → v ≤ 9223372036854775807 → m < 2 ^ 64 → rank v ≤ rank m → (v ≤ m) × (m ≤ 9223372036854775807)
ranked v m l s r = (omega arith, omega arith)

is_positive : (m : ℕ) → m ≤ 9223372036854775807 → positive m ≡ m
is_positive m l = grind (arith, nat_tests)

-- a value that isn't negative isn't above the greatest
pub greatest_bounds : (values : List ℕ) (k v : ℕ) → k < length values → v ≡ get_or values k 0 → ((k : ℕ) → k < length values → get_or values k 0 < 2 ^ 64) → is_negative v ≡ false → v ≤ positive (greatest values)
greatest_bounds values k v l e h n =
    let v_small : v ≤ 9223372036854775807 = grind (arith, nat_tests) in
    let r : rank v ≤ rank (greatest values) = let s = ap rank e in let g = greatest_ranks values k l in omega arith in
    let both = ranked v (greatest values) v_small (greatest_small values h) r in
    let p = is_positive (greatest values) both.1 in
    let b = both.0 in
    omega arith
