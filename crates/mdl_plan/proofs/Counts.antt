-- How many of the points pass a test.
use Rattle.std.proofs.Common.{◌≡◌, ℕ, suc, ◌+◌, ◌<◌, ◌≤◌, not, cond, Bool, true, false, List, ◌∷◌, length, drop, get_or, refl, ap, ◌∙◌, arith}
use Rattle.std.specs.List.{filter}
use Rattle.std.proofs.lemmas.List.{drop_more}
use Rattle.std.proofs.lemmas.List.Filters.{length-filter_both}
use Rattle.pn_types.specs.declared.code.Point.{Point}

-- no more than there are
pub few_pass : (f : Point → Bool) (points : List Point) → length (filter f points) ≤ length points
few_pass f points = omega (arith, length-filter_both f (λ p. not (f p)) (λ p. refl) points)

module _ (f : Point → Bool) (points : List Point) (i : ℕ) (p : Point) (lt : i < length points) (is : get_or points i p ≡ p) where
  from_here : filter f (drop i points) ≡ cond (f p) (p ∷ filter f (drop (i + 1) points)) (filter f (drop (i + 1) points))
  from_here = ap (filter f) (drop_more points i p lt ∙ ap (λ (x : Point). x ∷ drop (i + 1) points) is)

  -- the point passes
  pub count_more : (n total : ℕ) → f p ≡ true → n + length (filter f (drop i points)) ≡ total → n + 1 + length (filter f (drop (i + 1) points)) ≡ total
  count_more n total passes h =
      let behind : List Point = filter f (drop (i + 1) points) in
      let len : length (filter f (drop i points)) ≡ suc (length behind) = ap length (from_here ∙ ap (λ (b : Bool). cond b (p ∷ behind) behind) passes) in
      omega (arith, h, len)

  -- it does not
  pub count_same : (n total : ℕ) → f p ≡ false → n + length (filter f (drop i points)) ≡ total → n + length (filter f (drop (i + 1) points)) ≡ total
  count_same n total fails h =
      let behind : List Point = filter f (drop (i + 1) points) in
      let len : length (filter f (drop i points)) ≡ length behind = ap length (from_here ∙ ap (λ (b : Bool). cond b (p ∷ behind) behind) fails) in
      omega (arith, h, len)
