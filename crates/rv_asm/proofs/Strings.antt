-- The bytes of a string, one by one.
use Rattle.std.proofs.Common.{◌≡◌, ℕ, suc, ◌+◌, ◌<◌, ◌==◌, true, false, List, ◌∷◌, length, drop, get_or, drop-cons, refl, arith}
use Rattle.rv_asm.specs.Layout.{unescaped, escaped_byte}

pub escaped_step : (bytes : List ℕ) (i : ℕ) → i < length bytes → unescaped true (drop i bytes) ≡ escaped_byte (get_or bytes i 0) ∷ unescaped false (drop (i + 1) bytes)
escaped_step bytes i h =
    let here : drop i bytes ≡ get_or bytes i 0 ∷ drop (suc i) bytes = drop-cons bytes i 0 h in
    let next : i + 1 ≡ suc i = omega arith in
    rw (next, here) refl

pub backslash_step : (bytes : List ℕ) (i : ℕ) → i < length bytes → (get_or bytes i 0 == 92) ≡ true → unescaped false (drop i bytes) ≡ unescaped true (drop (i + 1) bytes)
backslash_step bytes i h e =
    let here : drop i bytes ≡ get_or bytes i 0 ∷ drop (suc i) bytes = drop-cons bytes i 0 h in
    let next : i + 1 ≡ suc i = omega arith in
    rw (next, here, e) refl

pub plain_step : (bytes : List ℕ) (i : ℕ) → i < length bytes → (get_or bytes i 0 == 92) ≡ false → unescaped false (drop i bytes) ≡ get_or bytes i 0 ∷ unescaped false (drop (i + 1) bytes)
plain_step bytes i h e =
    let here : drop i bytes ≡ get_or bytes i 0 ∷ drop (suc i) bytes = drop-cons bytes i 0 h in
    let next : i + 1 ≡ suc i = omega arith in
    rw (next, here, e) refl
