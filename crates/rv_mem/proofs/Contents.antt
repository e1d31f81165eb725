-- The bytes of a region, and the zeros behind them.
use Rattle.std.proofs.Common.{◌≡◌, ℕ, zero, suc, ◌+◌, ◌*◌, ◌/◌, ◌%◌, ◌^◌, ◌<◌, ◌≤◌, List, [], ◌∷◌, ◌++◌, length, set, replicate, refl, ap, ◌∙◌, arith, append_assoc, length-append, length-set}
use Rattle.std.proofs.lemmas.List.{get_or_past, length-replicate, replicate-append-replicate}
use Rattle.std.specs.Prelude.{slice_index}
use Rattle.rv_mem.specs.Regions.{little_endian, with_number}

-- a byte that wasn't written is 0
pub zeros_at : (bs : List ℕ) (k i : ℕ) → slice_index (bs ++ replicate k 0) i ≡ slice_index bs i
zeros_at [] zero i = refl
zeros_at [] (suc k) zero = refl
zeros_at [] (suc k) (suc i) = zeros_at [] k i
zeros_at (b ∷ bs) k zero = refl
zeros_at (b ∷ bs) k (suc i) = zeros_at bs k i

pub length-content : (bs : List ℕ) (k : ℕ) → length (bs ++ replicate k 0) ≡ length bs + k
length-content bs k = length-append bs (replicate k 0) ∙ ap (λ n. length bs + n) (length-replicate k 0)

pub number-zeros : (n : ℕ) (bs : List ℕ) (k i : ℕ) → little_endian n (bs ++ replicate k 0) i ≡ little_endian n bs i
number-zeros zero bs k i = refl
number-zeros (suc n) bs k i =
    ap (λ low. low + little_endian n (bs ++ replicate k 0) (i + 1) * 256) (zeros_at bs k i)
    ∙ ap (λ high. slice_index bs i + high * 256) (number-zeros n bs k (i + 1))

-- where nothing is written stands 0
pub number-past : (n : ℕ) (bs : List ℕ) (i : ℕ) → length bs ≤ i → little_endian n bs i ≡ 0
number-past zero bs i h = refl
number-past (suc n) bs i h =
    ap (λ low. low + little_endian n bs (i + 1) * 256) (get_or_past bs i 0 h)
    ∙ ap (λ high. 0 + high * 256) (number-past n bs (i + 1) (omega (arith, h)))

pub set-zeros : (bs : List ℕ) (k i b : ℕ) → i < length bs → set (bs ++ replicate k 0) i b ≡ set bs i b ++ replicate k 0
set-zeros [] k i b h = absurd (omega (arith, h))
set-zeros (x ∷ bs) k zero b h = refl
set-zeros (x ∷ bs) k (suc i) b h = ap (λ l. x ∷ l) (set-zeros bs k i b (omega (arith, h)))

pub write-zeros : (n : ℕ) (bs : List ℕ) (k i v : ℕ) → i + n ≤ length bs → with_number n (bs ++ replicate k 0) i v ≡ with_number n bs i v ++ replicate k 0
write-zeros zero bs k i v h = refl
write-zeros (suc n) bs k i v h =
    ap (λ l. with_number n l (i + 1) (v / 256)) (set-zeros bs k i (v % 256) (omega (arith, h)))
    ∙ write-zeros n (set bs i (v % 256)) k (i + 1) (v / 256) (omega (arith, h, length-set bs i (v % 256)))

-- some of the zeros are written
pub zeros-written : (bs : List ℕ) (j k m : ℕ) → j + k ≡ m → (bs ++ replicate j 0) ++ replicate k 0 ≡ bs ++ replicate m 0
zeros-written bs j k m e =
    append_assoc bs (replicate j 0) (replicate k 0)
    ∙ ap (λ l. bs ++ l) (replicate-append-replicate j k 0)
    ∙ ap (λ n. bs ++ replicate n 0) e

-- n bytes have room for 0
pub power_some : (n : ℕ) → 0 < 256 ^ n
power_some zero = omega arith
power_some (suc n) = let h = power_some n in omega (arith, h)
