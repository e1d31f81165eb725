-- The numbers that bytes are, and the bytes that numbers are.
use Rattle.std.proofs.Common.{◌≡◌, ℕ, zero, suc, ◌+◌, ◌*◌, ◌/◌, ◌%◌, ◌^◌, ◌<◌, ◌≤◌, List, [], ◌∷◌, ◌++◌, length, take, drop, refl, sym, ap, ◌∙◌, arith, length-drop}
use Rattle.std.proofs.lemmas.List.{drop-drop, take-append-drop, get_or-drop}
use Rattle.std.proofs.Math.Nat.{div-div-eq-div-mul, pow-succ'}
use Rattle.std.specs.Int.{byte_at, bytes_low_first}
use Rattle.byteorder.specs.Endian.{little_from, little_number, little_bytes}
use Rattle.byteorder.specs.Numbers.{little_from-cons, little_number-reads_back, little_from-lt}
use Rattle.quanta_log.specs.Fields.{number}
use Rattle.outside.specs.Outside.{IsBytes}

pub IsBytes-drop : (n : ℕ) (b : List ℕ) → IsBytes b → IsBytes (drop n b)
IsBytes-drop n b h i = rw get_or-drop (h (n + i))

-- a number of `size` bytes is below that power of 256
pub number_below : (size : ℕ) (b : List ℕ) (at : ℕ) → IsBytes b → number size b at < 256 ^ size
unfolding number
number_below size b at h = little_from-lt 0 size (drop at b) (IsBytes-drop at b h)

-- a number further on is a number of the bytes from a place on
pub number-drop : (size : ℕ) (b : List ℕ) (at k : ℕ) → number size b (at + k) ≡ number size (drop at b) k
unfolding number
number-drop size b at k = ap (λ r. little_number size r) (sym (drop-drop k at b))

pub number-front : (size : ℕ) (b : List ℕ) (at : ℕ) → number size b at ≡ number size (drop at b) 0
number-front size b at = let e : at ≡ at + 0 = omega arith in ap (number size b) e ∙ number-drop size b at 0

-- a number at the front of bytes
pub number_again : (size n : ℕ) (rest : List ℕ) → n < 256 ^ size → number size (little_bytes size n ++ rest) 0 ≡ n
unfolding number
number_again size n rest h = little_number-reads_back size n rest h

-- ---- bytes of a number

byte_above : (i a y : ℕ) → a < 256 → byte_at (suc i) (a + 256 * y) ≡ byte_at i y
byte_above zero a y h = omega arith
byte_above (suc i) a y h =
    let above : (a + 256 * y) / 256 ≡ y = omega arith in
    let power : 256 ^ suc (suc i) ≡ 256 * 256 ^ suc i = pow-succ' 256 (suc i) in
    ap (λ k. (a + 256 * y) / k % 256) power
    ∙ ap (λ k. k % 256) (sym (div-div-eq-div-mul (a + 256 * y) 256 (256 ^ suc i)))
    ∙ ap (λ k. k / 256 ^ suc i % 256) above

bytes_above : (i n a y : ℕ) → a < 256 → bytes_low_first (suc i) n (a + 256 * y) ≡ bytes_low_first i n y
bytes_above i zero a y h = refl
bytes_above i (suc n) a y h =
    let first = byte_above i a y h in
    let rest = bytes_above (suc i) n a y h in
    cc

bytes_back : (n : ℕ) (b : List ℕ) → IsBytes b → n ≤ length b → little_bytes n (little_number n b) ≡ take n b
bytes_back zero b h l = refl
bytes_back (suc n) [] h l = absurd (omega arith)
bytes_back (suc n) (x ∷ xs) h l =
    let low : x < 256 = h 0 in
    let rest : List ℕ = xs in
    let moved : little_from 1 n (x ∷ xs) ≡ little_number n xs = little_from-cons 0 n x xs in
    let others : little_bytes n (little_number n xs) ≡ take n xs = bytes_back n xs (λ i. h (suc i)) (omega arith) in
    let lowest : byte_at 0 (x + 256 * little_from 1 n (x ∷ xs)) ≡ x = omega arith in
    let above : bytes_low_first 1 n (x + 256 * little_from 1 n (x ∷ xs)) ≡ take n xs = bytes_above 0 n x (little_from 1 n (x ∷ xs)) low ∙ ap (bytes_low_first 0 n) moved ∙ others in
    cc

-- the bytes from a place on are those of the number there and the others
pub number_front : (size : ℕ) (b : List ℕ) (at : ℕ) → IsBytes b → at + size ≤ length b → drop at b ≡ little_bytes size (number size b at) ++ drop (at + size) b
unfolding number
number_front size b at h l =
    let front : little_bytes size (little_number size (drop at b)) ≡ take size (drop at b) = bytes_back size (drop at b) (IsBytes-drop at b h) (omega (arith, length-drop at b)) in
    sym (take-append-drop size (drop at b))
    ∙ ap (λ r. take size (drop at b) ++ r) (drop-drop size at b)
    ∙ ap (λ r. r ++ drop (at + size) b) (sym front)

-- the same, where the place of the others is told
pub number_step : (size : ℕ) (b : List ℕ) (at next : ℕ) → IsBytes b → next ≡ at + size → next ≤ length b → drop at b ≡ little_bytes size (number size b at) ++ drop next b
number_step size b at next h e l =
    number_front size b at h (omega arith) ∙ ap (λ k. little_bytes size (number size b at) ++ drop k b) (sym e)
