-- How high steps are.
use Rattle.std.proofs.Common.{◌≡◌, ◌*◌, ◌/◌, ◌≤◌, ◌<◌, ◌⊎◌, ℕ, zero, suc, true, false, refl, ap, inl, inr, ⊎_elim, arith}
use Rattle.std.specs.Prelude.{nat_lt}
use Rattle.std.proofs.Math.Nat.{mul-le-mul_left}
use Rattle.std.proofs.lemmas.Bool.Decides.{nat_tests}
use Rattle.report_picture.specs.Laws.{HeightsAreShares, IsStepHeight}
use Rattle.report_picture.specs.TimeLines.{step_height}

within : (n : ℕ) → (n < 401) ⊎ (401 ≤ n)
within n = elim (nat_lt n 401) as (λ b. nat_lt n 401 ≡ b → (n < 401) ⊎ (401 ≤ n)) [ true ↦ (λ e. inl (grind (arith, nat_tests))) | false ↦ (λ e. inr (grind (arith, nat_tests))) ] refl

at_most : (most value n : ℕ) → 0 < most → n * most ≤ value * 400 → value ≤ most → n ≤ 400
at_most most value n pos least le =
    ⊎_elim (λ (l : n < 401). omega arith) (λ (ge : 401 ≤ n). let m = mul-le-mul_left most ge in absurd (omega arith)) (within n)

quotient : (most value n : ℕ) → 0 < most → n ≡ value * 400 / most → IsStepHeight most value n
quotient most value n pos e =
    let same : most * n ≡ most * (value * 400 / most) = ap (λ z. most * z) e in
    let l : n * most ≤ value * 400 = omega arith in
    record {
      least = l;
      greatest = omega arith;
      whole = at_most most value n pos l;
    }

pub heights : HeightsAreShares
unfolding step_height
heights zero value pos = absurd (omega arith)
heights (suc most) value pos = quotient (suc most) value (step_height (suc most) value) pos (grind (arith, nat_tests))
