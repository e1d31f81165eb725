-- Numbers that grow above the most.
use Rattle.std.proofs.Common.{◌≡◌, ℕ, ◌+◌, ◌-◌, ◌*◌, ◌<◌, ◌≤◌, true, false, cond, None, List, [], ◌∷◌, length, drop, get_or, refl, arith}
use Rattle.std.specs.Option.{option_and_then}
use Rattle.std.proofs.lemmas.List.{drop_more}
use Rattle.pn_text.specs.Numbers.{is_digit, decimal_from, at_most}

-- once above the most, no digit brings a number back
pub none_above : (most n : ℕ) (bytes : List ℕ) → most < n → option_and_then (at_most most) (decimal_from n bytes) ≡ None
none_above most n [] h = grind arith
none_above most n (byte ∷ bytes) h =
    let more : option_and_then (at_most most) (decimal_from (n * 10 + (byte - 48)) bytes) ≡ None = none_above most (n * 10 + (byte - 48)) bytes (omega arith) in
    elim (is_digit byte) as (λ b. option_and_then (at_most most) (cond b (decimal_from (n * 10 + (byte - 48)) bytes) None) ≡ None) [ true ↦ more | false ↦ refl ]

-- nor do they where the next digit leads above it
pub none_at : (most n : ℕ) (bytes : List ℕ) (i : ℕ) → i < length bytes → 48 ≤ get_or bytes i 0 → get_or bytes i 0 ≤ 57 → most < n * 10 + (get_or bytes i 0 - 48) → option_and_then (at_most most) (decimal_from n (drop i bytes)) ≡ None
none_at most n bytes i h low high above =
    let here : drop i bytes ≡ get_or bytes i 0 ∷ drop (i + 1) bytes = drop_more bytes i 0 h in
    let digit : is_digit (get_or bytes i 0) ≡ true = grind arith in
    rw (here, digit) (none_above most (n * 10 + (get_or bytes i 0 - 48)) (drop (i + 1) bytes) above)
