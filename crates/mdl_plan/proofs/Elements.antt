-- The elements of lists that are joined.
use Rattle.std.proofs.Common.{◌≡◌, ℕ, zero, suc, ◌<◌, Some, List, [], ◌∷◌, ◌++◌, length, slice_get, refl, arith}

-- one before the seam
pub get_within : {A : Type 0} (xs : List A) (y : A) (q : ℕ) → q < length xs → slice_get (xs ++ y ∷ []) q ≡ slice_get xs q
get_within [] y q h = absurd (omega (arith, h))
get_within (x ∷ xs) y zero h = refl
get_within (x ∷ xs) y (suc q) h = get_within xs y q (omega (arith, h))

-- the one after the seam
pub get_behind : {A : Type 0} (xs : List A) (y : A) (rest : List A) → slice_get (xs ++ y ∷ rest) (length xs) ≡ Some y
get_behind [] y rest = refl
get_behind (x ∷ xs) y rest = get_behind xs y rest
