-- The scale of a number in groups of seven bits, and numbers that are skipped.
use Rattle.std.proofs.Common.{◌≡◌, ℕ, suc, ◌+◌, ◌-◌, ◌*◌, ◌^◌, ◌<◌, ◌≤◌, List, Result, Ok, Err, sym, ap, ◌∙◌, lit<, arith}
use Rattle.std.proofs.Math.Nat.{one-le-pow, pow-le-pow_right, pow-succ'}
use Rattle.line_table.specs.Reading.{◌>>=◌}
use Rattle.line_table.specs.Numbers.{uleb}
use Rattle.line_table.specs.Programs.{after_numbers}
use Rattle.line_table.specs.declared.fault.LineFault.{LineFault}

-- ---- scales

pub scale_fits : (n : ℕ) → n ≤ 10 → 128 ^ n ≤ 2 ^ 70
scale_fits n h = pow-le-pow_right (lit< tt) h

pub scale_more : (n scale : ℕ) → 0 < n → scale ≤ 128 ^ (n - 1) → 128 * scale ≤ 128 ^ n
scale_more n scale some h =
    let e : n ≡ suc (n - 1) = omega arith in
    let p : 128 ^ n ≡ 128 * 128 ^ (n - 1) = ap (λ k. 128 ^ k) e ∙ pow-succ' 128 (n - 1) in
    omega (arith, p, h)

pub scale_one : (n : ℕ) → 0 < n → 128 ≤ 128 ^ n
scale_one n some = omega (arith, scale_more n 1 some (one-le-pow (n - 1) 128 (lit< tt)))

-- ---- numbers that are skipped

pub skipped_more : (n i : ℕ) (b : List ℕ) (at : ℕ) (x : ℕ × ℕ) (all : Result ℕ LineFault) → i < n → uleb b at ≡ Ok x
    → after_numbers (n - i) b at ≡ all → after_numbers (n - (i + 1)) b x.1 ≡ all
skipped_more n i b at x all lt e so_far =
    let k : n - i ≡ suc (n - (i + 1)) = omega arith in
    sym (ap (λ m. after_numbers m b at) k ∙ ap (λ r. r >>= λ skipped. after_numbers (n - (i + 1)) b skipped.1) e) ∙ so_far

pub skipped_fault : (n i : ℕ) (b : List ℕ) (at : ℕ) (f : LineFault) (all : Result ℕ LineFault) → i < n → uleb b at ≡ Err f
    → after_numbers (n - i) b at ≡ all → all ≡ Err f
skipped_fault n i b at f all lt e so_far =
    let k : n - i ≡ suc (n - (i + 1)) = omega arith in
    sym so_far ∙ (ap (λ m. after_numbers m b at) k ∙ ap (λ r. r >>= λ skipped. after_numbers (n - (i + 1)) b skipped.1) e)

pub skipped_all : (n i : ℕ) (b : List ℕ) (at : ℕ) (all : Result ℕ LineFault) → n ≤ i → after_numbers (n - i) b at ≡ all → all ≡ Ok at
skipped_all n i b at all le so_far =
    let k : n - i ≡ 0 = omega arith in
    sym so_far ∙ ap (λ m. after_numbers m b at) k
