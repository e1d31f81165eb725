-- What is kept of a size.
use Rattle.std.proofs.Common.{◌≡◌, ℕ, ◌+◌, ◌*◌, ◌^◌, ◌≤◌, ◌<◌, min, Option, Some, None, List, [], ◌∷◌, refl, nat_le, Bool, true, false, suc, length, drop, get_or, drop-cons, ap, sym, ◌∙◌, arith}
use Rattle.std.specs.Option.{option_map, option_and_then}
use Rattle.std.proofs.Math.Nat.{mul-le-mul_right}
use Rattle.std.proofs.lemmas.Bool.{leb-true, leb-false}
use Rattle.rv_asm.specs.Numbers.{kept, digits_from, below, digit_of}

kept_by : (base n d : ℕ) → 1 ≤ base → (small : Bool) → nat_le n (2 ^ 64) ≡ small → kept (kept n * base + d) ≡ kept (n * base + d)
kept_by base n d h true e =
    let le = leb-true n (2 ^ 64) e in
    let same : kept n ≡ n = omega arith in
    rw same refl
kept_by base n d h false e =
    let gt = leb-false n (2 ^ 64) e in
    let same : kept n ≡ 2 ^ 64 = omega arith in
    let more = mul-le-mul_right {m = 2 ^ 64} {n = n} base (omega arith) in
    rw same (omega arith)

-- a digit more
kept_step : (base n d : ℕ) → 1 ≤ base → kept (kept n * base + d) ≡ kept (n * base + d)
kept_step base n d h = kept_by base n d h (nat_le n (2 ^ 64)) refl

same_digits_by : (base n m : ℕ) (bytes : List ℕ) (digit : Option ℕ) → 1 ≤ base → kept n ≡ kept m → ((d : ℕ) → option_map kept (digits_from base (n * base + d) bytes) ≡ option_map kept (digits_from base (m * base + d) bytes)) → option_map kept (option_and_then (λ d. digits_from base (n * base + d) bytes) digit) ≡ option_map kept (option_and_then (λ d. digits_from base (m * base + d) bytes) digit)
same_digits_by base n m bytes None h e more = refl
same_digits_by base n m bytes (Some d) h e more = more d

-- sizes that keep the same go on the same
pub same_digits : (base n m : ℕ) (bytes : List ℕ) → 1 ≤ base → kept n ≡ kept m → option_map kept (digits_from base n bytes) ≡ option_map kept (digits_from base m bytes)
same_digits base n m [] h e = ap Some e
same_digits base n m (byte ∷ bytes) h e =
    same_digits_by base n m bytes (option_and_then (below base) (digit_of byte)) h e
    (λ d. same_digits base (n * base + d) (m * base + d) bytes h
    (sym (kept_step base n d h) ∙ ap (λ (k : ℕ). kept (k * base + d)) e ∙ kept_step base m d h))

-- one byte of the digits
pub digit_step : (base n : ℕ) (bytes : List ℕ) (i d : ℕ) → i < length bytes → 1 ≤ base → Some d ≡ option_and_then (below base) (digit_of (get_or bytes i 0)) → option_map kept (digits_from base (min (n * base + d) (2 ^ 64)) (drop (i + 1) bytes)) ≡ option_map kept (digits_from base n (drop i bytes))
digit_step base n bytes i d h low e =
    let here : drop i bytes ≡ get_or bytes i 0 ∷ drop (suc i) bytes = drop-cons bytes i 0 h in
    let next : i + 1 ≡ suc i = omega arith in
    rw (next, here, sym e)
    (same_digits base (kept (n * base + d)) (n * base + d) (drop (suc i) bytes) low (omega arith))
